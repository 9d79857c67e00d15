-- What may follow a part of a text. Each token that can go on with a part opens at a level, and a part is
-- read as it is spelled where what follows it opens below the levels that could go on with it.
use Rattle.std.proofs.Common.{◌≡◌, ℕ, ◌<◌, Bool, true, false, List, [], ◌∷◌, nat_eq, if◌then◌else◌, refl, ap, arith}
use Rattle.ioa_tokens.specs.declared.token.Token.{Token}
use Rattle.ioa_tokens.specs.declared.token.Token.TheVariants as token
use Rattle.ioa_tokens.specs.declared.mark.Mark.{Mark}
use Rattle.ioa_tokens.specs.declared.mark.Mark.TheVariants as mark
use Rattle.ioa_cursor.specs.Reading.{bind, skip, at, at_word, peek_mark}
use Rattle.ioa_tokens.specs.Tables.{same_mark}
use Rattle.ioa_cursor.proofs.Steps.{stays, same_mark_true}
use Rattle.ioa_cursor.proofs.Follow.{skip_other}
use Rattle.ioa_term_reader.proofs.Closing.{mark_binds, Closes}
use Rattle.ioa_part_reader.specs.declared.statement.Context.{Context}
use Rattle.ioa_part_reader.specs.declared.statement.Context.TheVariants.{Effect, Block}
use Rattle.ioa_part_reader.specs.Reading.{kind_first, at_kind, begins_in_block, begins_statement, at_declaration, at_placement}

-- the level at which a mark goes on with what comes before it: 14 where it goes on with a term, 0 where it goes on with
-- nothing
abbrev pub mark_level : Mark → ℕ
mark_level mark.Assign = 13
mark_level mark.Where = 12
mark_level mark.Comma = 11
mark_level mark.Semicolon = 11
mark_level mark.If = 11
mark_level mark.While = 11
mark_level mark.Fire = 11
mark_level mark.Pre = 10
mark_level mark.Eff = 9
mark_level mark.Input = 8
mark_level mark.Output = 8
mark_level mark.Internal = 8
mark_level mark.Signature = 7
mark_level mark.States = 6
mark_level mark.Transitions = 5
mark_level mark.Schedule = 4
mark_level mark.Unordered = 4
mark_level mark.Type = 3
mark_level mark.Automaton = 3
mark_level mark.Node = 3
mark_level mark.Channel = 3
mark_level mark.Script = 3
mark_level mark.Invariant = 2
mark_level m = if nat_eq (mark_binds m) 0 then 0 else 14

-- the level of the first token
abbrev pub level : List Token → ℕ
level (token.Mark m ∷ xs) = mark_level m
level (token.Word w ∷ xs) = 11
level (token.Number n ∷ xs) = 0
level (token.LeftOut w ∷ xs) = 0
level [] = 0

-- the first token opens below a level
abbrev pub Below : ℕ → List Token → Type 0
Below k xs = level xs < k

mark_closes : (m : Mark) → mark_level m < 14 → mark_binds m ≡ 0
mark_closes mark.OpenRound h = absurd (omega arith)
mark_closes mark.AtSign h = absurd (omega arith)
mark_closes _ h = omega arith

-- a term ends below its level
pub closes : (xs : List Token) → level xs < 14 → Closes xs
closes (token.Mark m ∷ xs) h = mark_closes m h
closes (token.Word w ∷ xs) h = refl
closes (token.Number n ∷ xs) h = refl
closes (token.LeftOut w ∷ xs) h = refl
closes [] h = refl

not_same : (b : Bool) (k m : Mark) → (b ≡ true → k ≡ m) → mark_level k < mark_level m → b ≡ false
not_same true k m same h = absurd (omega (arith, ap mark_level (same refl)))
not_same false k m same h = refl

-- a mark of a higher level than the first token is not there
pub at_below : (m : Mark) (xs : List Token) → level xs < mark_level m → at m xs ≡ false
unfolding at
at_below m (token.Mark k ∷ xs) h = not_same (same_mark k m) k m (same_mark_true k m) h
at_below m (token.Word w ∷ xs) h = refl
at_below m (token.Number n ∷ xs) h = refl
at_below m (token.LeftOut w ∷ xs) h = refl
at_below m [] h = refl

pub skip_below : (m : Mark) (xs : List Token) → level xs < mark_level m → skip m xs ≡ stays false xs
skip_below m xs h = skip_other m xs (at_below m xs h)

pub at_word_below : (xs : List Token) → level xs < 11 → at_word xs ≡ false
unfolding at_word
at_word_below (token.Mark k ∷ xs) h = refl
at_word_below (token.Word w ∷ xs) h = absurd (omega arith)
at_word_below (token.Number n ∷ xs) h = refl
at_word_below (token.LeftOut w ∷ xs) h = refl
at_word_below [] h = refl

pub begins_statement_below : (c : Context) (xs : List Token) → level xs < 11 → begins_statement c xs ≡ false
unfolding begins_statement begins_in_block
begins_statement_below Effect xs h = rw (at_word_below xs h, at_below mark.If xs h) refl
begins_statement_below Block xs h = rw (at_word_below xs h, at_below mark.If xs h, at_below mark.While xs h, at_below mark.Fire xs h) refl

mark_no_kind : (m : Mark) (xs : List Token) → mark_level m < 8 → at_kind (token.Mark m ∷ xs) ≡ false
unfolding at_kind kind_first peek_mark bind
mark_no_kind mark.Input xs h = absurd (omega arith)
mark_no_kind mark.Output xs h = absurd (omega arith)
mark_no_kind mark.Internal xs h = absurd (omega arith)
mark_no_kind _ xs h = refl

pub at_kind_below : (xs : List Token) → level xs < 8 → at_kind xs ≡ false
unfolding at_kind kind_first peek_mark bind
at_kind_below (token.Mark m ∷ xs) h = mark_no_kind m xs h
at_kind_below (token.Word w ∷ xs) h = refl
at_kind_below (token.Number n ∷ xs) h = refl
at_kind_below (token.LeftOut w ∷ xs) h = refl
at_kind_below [] h = refl

pub at_declaration_below : (xs : List Token) → level xs < 3 → at_declaration xs ≡ false
unfolding at_declaration
at_declaration_below xs h = rw (at_below mark.Type xs h, at_below mark.Automaton xs h) refl

pub at_placement_below : (xs : List Token) → level xs < 3 → at_placement xs ≡ false
unfolding at_placement
at_placement_below xs h = rw (at_below mark.Node xs h, at_below mark.Channel xs h, at_below mark.Script xs h) refl

-- where a word comes first, no mark does
pub at_word_no_mark : (m : Mark) (xs : List Token) → at_word xs ≡ true → at m xs ≡ false
unfolding at at_word
at_word_no_mark m (token.Word w ∷ xs) e = refl
at_word_no_mark m (token.Mark k ∷ xs) e = absurd cc
at_word_no_mark m (token.Number n ∷ xs) e = absurd cc
at_word_no_mark m (token.LeftOut w ∷ xs) e = absurd cc
at_word_no_mark m [] e = absurd cc
