-- The operators of terms (profile): by which mark each is written, how tightly it binds, and how the operators of one
-- level group. Level 1 is the loosest, `atom_level` the tightest.
use Rattle.std.specs.Prelude.{ℕ, suc, List, [], ◌∷◌, Option}
use Rattle.std.specs.List.{find}
use Rattle.ioa_tokens.specs.declared.mark.Mark.{Mark}
use Rattle.ioa_tokens.specs.declared.mark.Mark.TheVariants as mark
use Rattle.ioa_operators.specs.declared.operator.UnaryOperator.{UnaryOperator}
use Rattle.ioa_operators.specs.declared.operator.UnaryOperator.TheVariants.{Not, Negative}
use Rattle.ioa_operators.specs.declared.operator.BinaryOperator.{BinaryOperator}
use Rattle.ioa_operators.specs.declared.operator.BinaryOperator.TheVariants as operator
use Rattle.ioa_tokens.specs.Tables.{same_mark}
use Rattle.ioa_term_reader.specs.declared.levels.Groups.{Groups}
use Rattle.ioa_term_reader.specs.declared.levels.Groups.TheVariants.{FromLeft, FromRight, NoGrouping}
use Rattle.ioa_term_reader.specs.declared.levels.InfixRow.{InfixRow}
use Rattle.ioa_term_reader.specs.declared.levels.PrefixRow.{PrefixRow}

abbrev row : Mark → ℕ → Groups → InfixRow
row m l g = record { mark = m; level = l; groups = g }

-- the level of `.f` and `[k]` behind a term
abbrev pub postfix_level : ℕ
postfix_level = 12

-- the level of numbers, words, calls, displays and of terms in brackets
abbrev pub atom_level : ℕ
atom_level = 13

-- the operators between two terms; `m[k]` is written with two brackets, of which its mark is the first, and binds as
-- `.f` does
abbrev pub infix_row : BinaryOperator → InfixRow
infix_row operator.Equivalent = row mark.Equivalent 1 FromLeft
infix_row operator.Implies = row mark.Implies 2 FromRight
infix_row operator.Or = row mark.Or 3 FromLeft
infix_row operator.And = row mark.And 4 FromLeft
infix_row operator.Equal = row mark.Equal 6 NoGrouping
infix_row operator.NotEqual = row mark.NotEqual 6 NoGrouping
infix_row operator.Less = row mark.Less 6 NoGrouping
infix_row operator.AtMost = row mark.AtMost 6 NoGrouping
infix_row operator.Greater = row mark.Greater 6 NoGrouping
infix_row operator.AtLeast = row mark.AtLeast 6 NoGrouping
infix_row operator.Member = row mark.Member 6 NoGrouping
infix_row operator.Prepend = row mark.Prepend 7 FromRight
infix_row operator.Append = row mark.Append 8 FromLeft
infix_row operator.Concatenate = row mark.Concatenate 8 FromLeft
infix_row operator.Plus = row mark.Plus 9 FromLeft
infix_row operator.Minus = row mark.Minus 9 FromLeft
infix_row operator.Times = row mark.Times 10 FromLeft
infix_row operator.At = row mark.OpenSquare postfix_level FromLeft

-- the operators that are written between their two terms: all but `m[k]`
abbrev pub infix_operators : List BinaryOperator
infix_operators =
    operator.Equivalent ∷ operator.Implies ∷ operator.Or ∷ operator.And ∷ operator.Equal ∷ operator.NotEqual
    ∷ operator.Less ∷ operator.AtMost ∷ operator.Greater ∷ operator.AtLeast ∷ operator.Member ∷ operator.Prepend
    ∷ operator.Append ∷ operator.Concatenate ∷ operator.Plus ∷ operator.Minus ∷ operator.Times ∷ []

-- the operators before a term
abbrev pub prefix_row : UnaryOperator → PrefixRow
prefix_row Not = record { mark = mark.Not; level = 5 }
prefix_row Negative = record { mark = mark.Minus; level = 11 }

abbrev pub prefix_operators : List UnaryOperator
prefix_operators = Not ∷ Negative ∷ []

-- the mark of an operator, and the operator of a mark
abbrev pub infix_mark : BinaryOperator → Mark
infix_mark op = (infix_row op).mark

abbrev pub infix_of : Mark → Option BinaryOperator
infix_of m = find (λ op. same_mark (infix_mark op) m) infix_operators

abbrev pub prefix_mark : UnaryOperator → Mark
prefix_mark op = (prefix_row op).mark

abbrev pub prefix_of : Mark → Option UnaryOperator
prefix_of m = find (λ op. same_mark (prefix_mark op) m) prefix_operators

-- the level of an operator
abbrev pub level : BinaryOperator → ℕ
level op = (infix_row op).level

abbrev pub prefix_level : UnaryOperator → ℕ
prefix_level op = (prefix_row op).level

-- the loosest level of the left side of an operator of a level
abbrev pub left_side : Groups → ℕ → ℕ
left_side FromLeft l = l
left_side FromRight l = suc l
left_side NoGrouping l = suc l

-- the loosest level of its right side
abbrev pub right_side : Groups → ℕ → ℕ
right_side FromLeft l = suc l
right_side FromRight l = l
right_side NoGrouping l = suc l

abbrev pub left_level : BinaryOperator → ℕ
left_level op = left_side (infix_row op).groups (level op)

abbrev pub right_level : BinaryOperator → ℕ
right_level op = right_side (infix_row op).groups (level op)
