-- What a term begins with: a word, a number, or one of a few marks.
use Rattle.std.proofs.Common.{◌≡◌, ◌≢◌, ℕ, Bool, true, false, List, [], ◌∷◌, Some, refl, ap, sym, true≢false, ◌∙◌}
use Rattle.ioa_tokens.specs.declared.token.Token.{Token}
use Rattle.ioa_tokens.specs.declared.token.Token.TheVariants as token
use Rattle.ioa_tokens.specs.declared.mark.Mark.{Mark}
use Rattle.ioa_tokens.specs.declared.mark.Mark.TheVariants as mark
use Rattle.ioa_operators.specs.declared.operator.UnaryOperator.{UnaryOperator}
use Rattle.ioa_source.specs.Sides.{SourceTerm, SourceTerms}
use Rattle.ioa_cursor.specs.Reading.{skip, peek_mark}
use Rattle.ioa_cursor.proofs.Steps.{stays}
use Rattle.ioa_cursor.proofs.Follow.{skip_unlike}
use Rattle.ioa_term_reader.specs.Grammar.{SpellsAt, numeral, yes, no, word, at_node, call, brackets, empty, braces, fields, field, key, before, between, tighter, SpellsTerms, single, followed, SpellsTerm}
use Rattle.ioa_term_reader.specs.Levels.{prefix_of}

-- whether a mark begins a term
abbrev pub begins_term : Mark → Bool
begins_term mark.True = true
begins_term mark.False = true
begins_term mark.OpenRound = true
begins_term mark.OpenBrace = true
begins_term mark.OpenSquare = true
begins_term mark.Not = true
begins_term mark.Minus = true
begins_term _ = false

-- whether a term may come first
abbrev pub at_term : List Token → Bool
at_term (token.Word w ∷ xs) = true
at_term (token.Number n ∷ xs) = true
at_term (token.Mark m ∷ xs) = begins_term m
at_term (token.LeftOut w ∷ xs) = false
at_term [] = false

prefix_begins : (m : Mark) (op : UnaryOperator) → prefix_of m ≡ Some op → begins_term m ≡ true
prefix_begins mark.Not op e = refl
prefix_begins mark.Minus op e = refl
prefix_begins _ op e = absurd cc

-- a term begins so
pub at_begins : {room l : ℕ} {t : SourceTerm} {xs ys : List Token} → SpellsAt room l t xs ys → at_term xs ≡ true
at_begins numeral = refl
at_begins yes = refl
at_begins no = refl
at_begins word = refl
at_begins at_node = refl
at_begins (call ts) = refl
at_begins (brackets d) = refl
at_begins empty = refl
at_begins (braces ts) = refl
at_begins (fields ts) = refl
at_begins (field d) = at_begins d
at_begins (key d k) = at_begins d
at_begins (before m op is d) = prefix_begins m op is
at_begins (between m op is d k) = at_begins d
at_begins (tighter d) = at_begins d

pub terms_begin : {room : ℕ} {ts : SourceTerms} {xs ys : List Token} → SpellsTerms room ts xs ys → at_term xs ≡ true
terms_begin (single d) = at_begins d
terms_begin (followed d rest) = at_begins d

pub term_begins : {room : ℕ} {t : SourceTerm} {xs ys : List Token} → SpellsTerm room t xs ys → at_term xs ≡ true
term_begins d = at_begins d.spelled

-- where a term comes first, no other mark does
pub not_mark_first : (m : Mark) → begins_term m ≡ false → (xs : List Token) → at_term xs ≡ true → peek_mark xs ≢ Some m
unfolding peek_mark
not_mark_first m other (token.Mark k ∷ xs) e same = let like : k ≡ m = cc in true≢false (sym e ∙ (ap begins_term like ∙ other))
not_mark_first m other (token.Word w ∷ xs) e same = absurd cc
not_mark_first m other (token.Number n ∷ xs) e same = absurd cc
not_mark_first m other (token.LeftOut w ∷ xs) e same = absurd cc
not_mark_first m other [] e same = absurd cc

-- where a term comes first, no mark is skipped that begins none
pub skip_at_term : (m : Mark) → begins_term m ≡ false → (xs : List Token) → at_term xs ≡ true → skip m xs ≡ stays false xs
skip_at_term m other xs e = skip_unlike m xs (not_mark_first m other xs e)
