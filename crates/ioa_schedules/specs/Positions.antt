-- Where a block stands, as the code keeps it (view).
use Rattle.std.specs.Prelude.{◌≡◌, ℕ, ◌-◌, List, [], ◌∷◌, map, drop, length}
use Rattle.std.specs.Borrow.{Bor}
use Rattle.ioa_operators.specs.declared.shape.Shape.{Shape}
use Rattle.ioa_terms.specs.declared.callee.Callee.{Callee}
use Rattle.ioa_terms.specs.declared.tree.Statement.{Statement}
use Rattle.ioa_terms.specs.PlainTerm.{PlainStatement, PlainStatements, statements_of, no_statements}
use Rattle.ioa_terms.specs.View.{statement_of}
use Rattle.ioa_schedules.specs.declared.position.Position.{Position}
use Rattle.ioa_schedules.specs.Turns.{joined_statements}

-- a list of statements of the block (view)
abbrev pub statements_in : List (Statement ℕ Callee Shape) → PlainStatements ℕ Callee Shape
statements_in ss = statements_of (map statement_of ss)

-- the lists that come later (view): the last one first
abbrev pub below_of : List (Bor (List (Statement ℕ Callee Shape))) → PlainStatements ℕ Callee Shape
below_of [] = no_statements
below_of (ss ∷ more) = joined_statements (below_of more) (statements_in ss.now)

-- what is still to do (view)
abbrev pub statements_at : Position → PlainStatements ℕ Callee Shape
statements_at p = joined_statements (statements_in p.top.now) (below_of p.below.items)

-- the list at the bottom (view): the one below all others, or the top if nothing is below
abbrev pub bottom_by : List (Statement ℕ Callee Shape) → List (Bor (List (Statement ℕ Callee Shape)))
    → List (Statement ℕ Callee Shape)
bottom_by top [] = top
bottom_by top (ss ∷ more) = ss.now

-- the statements of the block's own list that are still to do (view): all others are in the bodies of those before
abbrev pub bottom_of : Position → List (PlainStatement ℕ Callee Shape)
bottom_of p = map statement_of (bottom_by p.top.now p.below.items)

-- a list is the end of another one
abbrev pub IsEndOf : {A : Type 0} → List A → List A → Type 0
IsEndOf xs ys = drop (length ys - length xs) ys ≡ xs
