-- What the result of the reader tells about the sources that a text spells.
use Rattle.std.proofs.Common.{◌≡◌, ◌⊎◌, inl, inr, ℕ, ◌<◌, ◌≤◌, true, List, [], length, Option, Some, None, Result, Ok, Err, refl, sym, ap, ◌∙◌, arith}
use Rattle.std.specs.Prelude.{IfOk, IfErr, MatchResult}
use Rattle.std.proofs.lemmas.Option.{some_pair_parts}
use Rattle.std.proofs.Math.Logic.{∥∥₁_elim}
use Rattle.ioa_tokens.specs.declared.token.Token.{Token}
use Rattle.ioa_tokens.specs.declared.token.LocatedToken.{LocatedToken}
use Rattle.ioa_tokens.specs.declared.fault.CutFault.{CutFault}
use Rattle.ioa_tokens.specs.declared.fault.CutFault.TheVariants as cut
use Rattle.ioa_tokens.specs.Tokens.{tokens}
use Rattle.ioa_source.specs.TextView.{text_of}
use Rattle.ioa_source.specs.Sides.{SourceText}
use Rattle.ioa_source.proofs.Sets.{Option-set, text_set}
use Rattle.ioa_part_reader.specs.Grammar.{Spells}
use Rattle.ioa_cursor.specs.Reading.{expect, skip, collect, bind}
use Rattle.ioa_part_reader.specs.Reading.{whole, all_declarations}
use Rattle.ioa_text_reader.specs.Parsing.{ReadsNothing, Parses}
use Rattle.ioa_text_reader.specs.Texts.{length_limit, bare, TextSpells, StandsInText, is_exact}
use Rattle.ioa_text_reader.specs.declared.fault.FrontFault.{FrontFault}
use Rattle.ioa_text_reader.specs.declared.fault.FrontFault.TheVariants.{Empty, BadCharacter, Unexpected, NumberTooLarge, TooDeep, TooLong, LeftOut, Memory}
use Rattle.ioa_text_reader.specs.declared.source.Source.{Source}
use Rattle.ioa_cursor.proofs.Steps.{read_next}
use Rattle.ioa_text_reader.proofs.SoundTexts.{whole_sound}
use Rattle.ioa_text_reader.proofs.CompleteTexts.{whole_complete}

-- tokens spell one source at most
pub spelled_once : (p q : SourceText) (xs : List Token) → Spells p xs → Spells q xs → p ≡ q
spelled_once p q xs d e = (some_pair_parts p q [] [] (sym (whole_complete xs p d) ∙ whole_complete xs q e)).0

ok_not_err : {X : Type 0} (x : List LocatedToken) (e : CutFault) (r : Result (List LocatedToken) CutFault) → r ≡ Ok x → r ≡ Err e → X
ok_not_err x e r a b = absurd cc

none_not_some : {X A : Type 0} (a : A) (o : Option A) → o ≡ None → o ≡ Some a → X
none_not_some a o e f = absurd cc

same_ok : (x y : List LocatedToken) (r : Result (List LocatedToken) CutFault) → r ≡ Ok x → r ≡ Ok y → x ≡ y
same_ok x y r a b = cc

same_err : (x y : CutFault) (r : Result (List LocatedToken) CutFault) → r ≡ Err x → r ≡ Err y → x ≡ y
same_err x y r a b = cc

same_character : (x y : ℕ) → cut.BadCharacter x ≡ cut.BadCharacter y → BadCharacter x ≡ BadCharacter y
same_character x y e = cc

same_number : (x y : ℕ) → cut.NumberTooLarge x ≡ cut.NumberTooLarge y → NumberTooLarge x ≡ NumberTooLarge y
same_number x y e = cc

other_fault : {X : Type 0} (x y : ℕ) → cut.BadCharacter x ≡ cut.NumberTooLarge y → X
other_fault x y e = absurd cc

too_long : {X : Type 0} (text : List ℕ) → length_limit < length text → length text ≤ length_limit → X
too_long text h l = absurd (omega arith)

-- no token is no text
nothing_read : whole [] ≡ None
unfolding whole all_declarations expect skip collect bind
nothing_read = refl

something_read : {X : Type 0} (located : List LocatedToken) (r : SourceText × List Token) → [] ≡ located → whole (bare located) ≡ Some r → X
something_read located r same e = none_not_some r (whole (bare located)) (rw (← same) nothing_read) e

-- what is spelled is read
read_as_spelled : (p : SourceText) (located other : List LocatedToken) (r : Result (List LocatedToken) CutFault) → r ≡ Ok located → r ≡ Ok other → Spells p (bare other) → whole (bare located) ≡ read_next p []
read_as_spelled p located other r e f d = rw (same_ok located other r e f) (whole_complete (bare other) p d)

-- where nothing is read, nothing is spelled
spells_none : (text : List ℕ) → ReadsNothing text → (p : SourceText) → TextSpells p text → ⊥
spells_none text h p d = none_not_some (p, []) (whole (bare h.0)) h.2 (read_as_spelled p h.0 d.0 (tokens text) h.1 d.1 d.2)

-- a text of which nothing is read is within the limit, is cut into tokens and has one
not_exact : {X : Type 0} (text : List ℕ) → length text ≤ length_limit → ReadsNothing text → (e : FrontFault) → is_exact e ≡ true → StandsInText e text → X
not_exact text l h (Unexpected offset) x s = absurd cc
not_exact text l h (TooDeep offset) x s = absurd cc
not_exact text l h (LeftOut w offset) x s = absurd cc
not_exact text l h Memory x s = absurd cc
not_exact text l h TooLong x s = too_long text s l
not_exact text l h (BadCharacter offset) x s = ok_not_err h.0 (cut.BadCharacter offset) (tokens text) h.1 s.1
not_exact text l h (NumberTooLarge offset) x s = ok_not_err h.0 (cut.NumberTooLarge offset) (tokens text) h.1 s.1
not_exact text l h Empty x s = absurd (h.3 (same_ok h.0 [] (tokens text) h.1 s.1))

-- what is read is spelled
pub parses_found : (r : Result Source FrontFault) (text : List ℕ) → Parses r text → IfOk r (λ s. TextSpells (text_of s.text) text)
parses_found (Ok s) text h = let located = h.1.0 in (located, h.1.2, whole_sound (bare located) h.1.1 (text_of s.text) h.1.3)
parses_found (Err e) text h = tt

-- what is spelled is returned
pub parses_only : (r : Result Source FrontFault) (text : List ℕ) → Parses r text → (p : SourceText) → length text ≤ length_limit → TextSpells p text →
    MatchResult r (λ s. text_of s.text ≡ p) (λ e. e ≡ Memory)
parses_only (Ok s) text h p l d =
    (some_pair_parts _ p h.1.1 [] (sym h.1.3 ∙ read_as_spelled p h.1.0 d.0 (tokens text) h.1.2 d.1 d.2)).0
parses_only (Err TooLong) text h p l d = too_long text h l
parses_only (Err (BadCharacter offset)) text h p l d = ok_not_err d.0 (cut.BadCharacter offset) (tokens text) d.1 h.1
parses_only (Err (NumberTooLarge offset)) text h p l d = ok_not_err d.0 (cut.NumberTooLarge offset) (tokens text) d.1 h.1
parses_only (Err Empty) text h p l d = something_read d.0 (p, []) (same_ok [] d.0 (tokens text) h.1 d.1) (whole_complete (bare d.0) p d.2)
parses_only (Err (Unexpected offset)) text h p l d = absurd (spells_none text h.1 p d)
parses_only (Err (TooDeep offset)) text h p l d = absurd (spells_none text h.1 p d)
parses_only (Err (LeftOut w offset)) text h p l d = absurd (spells_none text h.1 p d)
parses_only (Err Memory) text h p l d = refl

-- a refusal is true
pub parses_refused : (r : Result Source FrontFault) (text : List ℕ) → Parses r text → IfErr r (λ e. StandsInText e text)
parses_refused (Ok s) text h = tt
parses_refused (Err TooLong) text h = h
parses_refused (Err (BadCharacter offset)) text h = h
parses_refused (Err (NumberTooLarge offset)) text h = h
parses_refused (Err Empty) text h = h
parses_refused (Err (Unexpected offset)) text h = (h.0, spells_none text h.1)
parses_refused (Err (TooDeep offset)) text h = (h.0, spells_none text h.1)
parses_refused (Err (LeftOut w offset)) text h = (h.0, spells_none text h.1)
parses_refused (Err Memory) text h = tt

-- the exact refusals come where they are true
pub parses_exact : (r : Result Source FrontFault) (text : List ℕ) → Parses r text → (e : FrontFault) → is_exact e ≡ true → StandsInText e text → MatchResult r (λ _. ⊥) (λ f. (f ≡ Memory) ⊎ (f ≡ e))
parses_exact r text h (Unexpected offset) x s = absurd cc
parses_exact r text h (TooDeep offset) x s = absurd cc
parses_exact r text h (LeftOut w offset) x s = absurd cc
parses_exact r text h Memory x s = absurd cc
parses_exact (Err Memory) text h TooLong x s = inl refl
parses_exact (Err Memory) text h (BadCharacter offset) x s = inl refl
parses_exact (Err Memory) text h (NumberTooLarge offset) x s = inl refl
parses_exact (Err Memory) text h Empty x s = inl refl
parses_exact (Ok q) text h TooLong x s = too_long text s h.0
parses_exact (Ok q) text h (BadCharacter offset) x s = ok_not_err h.1.0 (cut.BadCharacter offset) (tokens text) h.1.2 s.1
parses_exact (Ok q) text h (NumberTooLarge offset) x s = ok_not_err h.1.0 (cut.NumberTooLarge offset) (tokens text) h.1.2 s.1
parses_exact (Ok q) text h Empty x s = something_read h.1.0 (text_of q.text, h.1.1) (same_ok [] h.1.0 (tokens text) s.1 h.1.2) h.1.3
parses_exact (Err TooLong) text h TooLong x s = inr refl
parses_exact (Err TooLong) text h (BadCharacter offset) x s = too_long text h s.0
parses_exact (Err TooLong) text h (NumberTooLarge offset) x s = too_long text h s.0
parses_exact (Err TooLong) text h Empty x s = too_long text h s.0
parses_exact (Err (BadCharacter at)) text h TooLong x s = too_long text s h.0
parses_exact (Err (BadCharacter at)) text h (BadCharacter offset) x s = inr (same_character at offset (same_err _ _ (tokens text) h.1 s.1))
parses_exact (Err (BadCharacter at)) text h (NumberTooLarge offset) x s = other_fault at offset (same_err _ _ (tokens text) h.1 s.1)
parses_exact (Err (BadCharacter at)) text h Empty x s = ok_not_err [] (cut.BadCharacter at) (tokens text) s.1 h.1
parses_exact (Err (NumberTooLarge at)) text h TooLong x s = too_long text s h.0
parses_exact (Err (NumberTooLarge at)) text h (BadCharacter offset) x s = other_fault offset at (same_err _ _ (tokens text) s.1 h.1)
parses_exact (Err (NumberTooLarge at)) text h (NumberTooLarge offset) x s = inr (same_number at offset (same_err _ _ (tokens text) h.1 s.1))
parses_exact (Err (NumberTooLarge at)) text h Empty x s = ok_not_err [] (cut.NumberTooLarge at) (tokens text) s.1 h.1
parses_exact (Err Empty) text h TooLong x s = too_long text s h.0
parses_exact (Err Empty) text h (BadCharacter offset) x s = ok_not_err [] (cut.BadCharacter offset) (tokens text) h.1 s.1
parses_exact (Err Empty) text h (NumberTooLarge offset) x s = ok_not_err [] (cut.NumberTooLarge offset) (tokens text) h.1 s.1
parses_exact (Err Empty) text h Empty x s = inr refl
parses_exact (Err (Unexpected at)) text h e x s = not_exact text h.0 h.1 e x s
parses_exact (Err (TooDeep at)) text h e x s = not_exact text h.0 h.1 e x s
parses_exact (Err (LeftOut w at)) text h e x s = not_exact text h.0 h.1 e x s

-- a text above the limit is refused as such, and takes no memory
pub parses_long : (r : Result Source FrontFault) (text : List ℕ) → Parses r text → length_limit < length text → MatchResult r (λ _. ⊥) (λ e. e ≡ TooLong)
parses_long (Ok s) text h l = too_long text l h.0
parses_long (Err TooLong) text h l = refl
parses_long (Err (BadCharacter offset)) text h l = too_long text l h.0
parses_long (Err (NumberTooLarge offset)) text h l = too_long text l h.0
parses_long (Err Empty) text h l = too_long text l h.0
parses_long (Err (Unexpected offset)) text h l = too_long text l h.0
parses_long (Err (TooDeep offset)) text h l = too_long text l h.0
parses_long (Err (LeftOut w offset)) text h l = too_long text l h.0
parses_long (Err Memory) text h l = too_long text l h

-- what was read, without what comes after it
abbrev read_part : Option (SourceText × List Token) → Option SourceText
read_part None = None
read_part (Some r) = Some r.0

-- what is read of tokens, where a text could be cut into some
abbrev cut_part : Result (List LocatedToken) CutFault → Option SourceText
cut_part (Err e) = None
cut_part (Ok located) = read_part (whole (bare located))

spelled_source : (p : SourceText) (text : List ℕ) → TextSpells p text → cut_part (tokens text) ≡ Some p
spelled_source p text d = ap cut_part d.1 ∙ ap read_part (whole_complete (bare d.0) p d.2)

from_whole : (p : SourceText) (text : List ℕ) (located : List LocatedToken) → tokens text ≡ Ok located → (o : Option (SourceText × List Token)) → whole (bare located) ≡ o →
    read_part o ≡ Some p → TextSpells p text
from_whole p text located cut None same is = absurd cc
from_whole p text located cut (Some r) same is = (located, cut, whole_sound (bare located) r.1 p (same ∙ ap (λ q. read_next q r.1) cc))

from_tokens : (p : SourceText) (text : List ℕ) (r : Result (List LocatedToken) CutFault) → tokens text ≡ r → cut_part r ≡ Some p → TextSpells p text
from_tokens p text (Err e) same is = absurd cc
from_tokens p text (Ok located) same is = from_whole p text located same (whole (bare located)) refl is

-- what is merely spelled is spelled, since two proofs that two texts are the same are the same
pub truly_spelled : (p : SourceText) (text : List ℕ) → ∥ TextSpells p text ∥₁ → TextSpells p text
truly_spelled p text h =
    from_tokens p text (tokens text) refl (∥∥₁_elim h (Option-set text_set (cut_part (tokens text)) (Some p)) (spelled_source p text))
