-- What may come behind a term. A token that goes on with a term does so behind a term of some level at the loosest,
-- and a term ends if what comes next goes on only with tighter ones.
use Rattle.std.proofs.Common.{◌≡◌, ◌≢◌, ℕ, ◌<◌, ◌≤◌, ◌⊎◌, inl, inr, List, [], ◌∷◌, Option, Some, None, refl, ap, arith}
use Rattle.std.specs.Option.{option_map}
use Rattle.std.specs.Prelude.{◌==◌, ◌||◌, if◌then◌else◌}
use Rattle.ioa_tokens.specs.declared.token.Token.{Token}
use Rattle.ioa_tokens.specs.declared.token.Token.TheVariants as token
use Rattle.ioa_tokens.specs.declared.mark.Mark.{Mark}
use Rattle.ioa_tokens.specs.declared.mark.Mark.TheVariants as mark
use Rattle.ioa_operators.specs.declared.operator.UnaryOperator.{UnaryOperator}
use Rattle.ioa_operators.specs.declared.operator.UnaryOperator.TheVariants.{Not, Negative}
use Rattle.ioa_operators.specs.declared.operator.BinaryOperator.{BinaryOperator}
use Rattle.ioa_operators.specs.declared.operator.BinaryOperator.TheVariants as operator
use Rattle.ioa_term_reader.specs.Levels.{infix_row, infix_of, left_side, right_side, level, left_level, right_level, prefix_level}
use Rattle.ioa_term_reader.specs.declared.levels.Groups.{Groups}
use Rattle.ioa_term_reader.specs.declared.levels.Groups.TheVariants.{FromLeft, FromRight, NoGrouping}
use Rattle.ioa_term_reader.specs.Reading.{after_of, level_of, left_of}
use Rattle.ioa_term_reader.specs.declared.after.After.{After}
use Rattle.ioa_term_reader.specs.declared.after.After.TheVariants.{Infix, Field, Key}

-- the loosest level of a term that goes on so, 0 where it does not go on
abbrev pub binds_after : Option After → ℕ
binds_after None = 0
binds_after (Some a) = left_of a

-- the same for a mark; a bracket behind a word opens a call and `@` makes it another name, which are no terms that go
-- on: these count as tighter than all levels
abbrev pub mark_binds : Mark → ℕ
mark_binds mark.OpenRound = 14
mark_binds mark.AtSign = 14
mark_binds m = binds_after (after_of m)

-- the same for what comes next
abbrev pub binds : List Token → ℕ
binds (token.Mark m ∷ xs) = mark_binds m
binds (token.Word w ∷ xs) = 0
binds (token.Number n ∷ xs) = 0
binds (token.LeftOut w ∷ xs) = 0
binds [] = 0

-- what comes next goes on with no term
abbrev pub Closes : List Token → Type 0
Closes xs = binds xs ≡ 0

pub after_binds : (m : Mark) → binds_after (after_of m) ≤ mark_binds m
after_binds mark.OpenRound = omega arith
after_binds mark.AtSign = omega arith
after_binds _ = omega arith

-- a mark between two terms binds as its operator does
pub binds_infix : (m : Mark) (op : BinaryOperator) → infix_of m ≡ Some op → mark_binds m ≡ left_level op
binds_infix mark.OpenRound op e = absurd cc
binds_infix mark.AtSign op e = absurd cc
binds_infix mark.Dot op e = absurd cc
binds_infix mark.OpenSquare op e = absurd cc
binds_infix m op e = ap (λ o. binds_after (option_map Infix o)) e

left_side_above : (g : Groups) (l : ℕ) → l ≤ left_side g l
left_side_above FromLeft l = omega arith
left_side_above FromRight l = omega arith
left_side_above NoGrouping l = omega arith

right_side_above : (g : Groups) (l : ℕ) → l ≤ right_side g l
right_side_above FromLeft l = omega arith
right_side_above FromRight l = omega arith
right_side_above NoGrouping l = omega arith

one_side_above : (g : Groups) (l : ℕ) → left_side g l ≤ l → l < right_side g l
one_side_above FromLeft l h = omega arith
one_side_above FromRight l h = absurd (omega arith)
one_side_above NoGrouping l h = absurd (omega arith)

-- the operators of a level group alike: `=>` and `-|` from the right, comparisons not at all, the others from the left
abbrev grouping : ℕ → Groups
grouping l = if (l == 2) || (l == 7) then FromRight else (if l == 6 then NoGrouping else FromLeft)

grouping_is : (op : BinaryOperator) → (infix_row op).groups ≡ grouping (level op)
grouping_is operator.At = refl
grouping_is _ = refl

same_or_less : (k l : ℕ) → k ≤ l → (k < l) ⊎ (k ≡ l)
same_or_less k l h = grind arith

by_order : (k l : ℕ) → (k < l) ⊎ (k ≡ l) → left_side (grouping k) k ≤ l → k < right_side (grouping l) l
by_order k l (inl less) h = let r = right_side_above (grouping l) l in omega arith
by_order k l (inr same) h = rw same (one_side_above (grouping l) l (rw same at h))

-- an operator that may come behind a term of a level does not go on with the right side of an operator of that level
sides : (k l : ℕ) → left_side (grouping k) k ≤ l → k < right_side (grouping l) l
sides k l h = let a = left_side_above (grouping k) k in by_order k l (same_or_less k l (omega arith)) h

pub left_level_above : (op : BinaryOperator) → level op ≤ left_level op
left_level_above op = left_side_above (infix_row op).groups (level op)

pub right_level_above : (op : BinaryOperator) → level op ≤ right_level op
right_level_above op = right_side_above (infix_row op).groups (level op)

-- what goes on with a term is at the level of that term, or at a looser one
pub level_below : (a : After) → level_of a ≤ left_of a
level_below (Infix op) = left_level_above op
level_below Field = omega arith
level_below Key = omega arith

-- the right side of an operator ends where the whole does
pub ends_right : (op : BinaryOperator) (a : After) → left_of a ≤ level op → level_of a < right_level op
ends_right op (Infix other) h = rw (grouping_is op) (sides (level other) (level op) (rw (grouping_is other) at h))
ends_right op Field h = rw (grouping_is op) (sides 12 (level op) h)
ends_right op Key h = rw (grouping_is op) (sides 12 (level op) h)

-- no operator between two terms is at the level of one before a term
apart : (p : UnaryOperator) (op : BinaryOperator) → level op ≢ prefix_level p
apart Not operator.At = omega arith
apart Not _ = omega arith
apart Negative operator.At = omega arith
apart Negative _ = omega arith

-- so does what comes behind an operator
pub ends_prefix : (p : UnaryOperator) (a : After) → left_of a ≤ prefix_level p → level_of a < prefix_level p
ends_prefix p (Infix op) h = let b = level_below (Infix op) in let d = apart p op in omega arith
ends_prefix Not Field h = absurd (omega arith)
ends_prefix Negative Field h = absurd (omega arith)
ends_prefix Not Key h = absurd (omega arith)
ends_prefix Negative Key h = absurd (omega arith)

-- and so does a whole term
pub ends_whole : (a : After) → left_of a ≤ 0 → level_of a < 1
ends_whole a h = let b = level_below a in omega arith
