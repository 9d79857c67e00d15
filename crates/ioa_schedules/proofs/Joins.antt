-- Statements one list behind another.
use Rattle.std.proofs.Common.{◌≡◌, ℕ, List, [], ◌∷◌, ◌++◌, ◌≤◌, length, refl, sym, ap, ◌∙◌, arith}
use Rattle.std.specs.Borrow.{Bor}
use Rattle.std.proofs.lemmas.List.{length-append}
use Rattle.ioa_operators.specs.declared.shape.Shape.{Shape}
use Rattle.ioa_terms.specs.declared.callee.Callee.{Callee}
use Rattle.ioa_terms.specs.declared.tree.Statement.{Statement}
use Rattle.ioa_terms.specs.PlainTerm.{PlainStatements, no_statements, statement}
use Rattle.ioa_schedules.specs.Turns.{joined_statements, following_statements}
use Rattle.ioa_schedules.specs.Positions.{statements_in, below_of}

-- nothing behind
pub joined_none : (ss : PlainStatements ℕ Callee Shape) → joined_statements ss no_statements ≡ ss
joined_none no_statements = refl
joined_none (statement s ss) = ap (statement s) (joined_none ss)

-- three lists
pub joined_twice : (xs ys zs : PlainStatements ℕ Callee Shape) → joined_statements (joined_statements xs ys) zs ≡ joined_statements xs (joined_statements ys zs)
joined_twice no_statements ys zs = refl
joined_twice (statement x xs) ys zs = ap (statement x) (joined_twice xs ys zs)

-- the last list below is the first to come
pub below_last : (fs : List (Bor (List (Statement ℕ Callee Shape)))) (f : Bor (List (Statement ℕ Callee Shape))) → below_of (fs ++ f ∷ []) ≡ joined_statements (statements_in f.now) (below_of fs)
below_last [] f = sym (joined_none (statements_in f.now))
below_last (g ∷ fs) f = ap (λ (ss : PlainStatements ℕ Callee Shape). joined_statements ss (statements_in g.now)) (below_last fs f) ∙ joined_twice (statements_in f.now) (below_of fs) (statements_in g.now)

-- where the top is empty, and nothing is below, nothing is to do
pub nothing_left : (top : List (Statement ℕ Callee Shape)) (fs : List (Bor (List (Statement ℕ Callee Shape)))) → length top ≡ 0 → (length top ≡ 0 → length fs ≡ 0) → joined_statements (statements_in top) (below_of fs) ≡ no_statements
nothing_left [] [] h k = refl
nothing_left [] (f ∷ fs) h k = let none = k refl in absurd (omega arith)
nothing_left (s ∷ top) fs h k = absurd (omega arith)

-- where the top is empty, what follows is what is below: nothing
pub nothing_follows : (top : List (Statement ℕ Callee Shape)) (fs : List (Bor (List (Statement ℕ Callee Shape)))) → length top ≡ 0 → (length top ≡ 0 → length fs ≡ 0) → following_statements (joined_statements (statements_in top) (below_of fs)) ≡ below_of fs
nothing_follows [] [] h k = refl
nothing_follows [] (f ∷ fs) h k = let none = k refl in absurd (omega arith)
nothing_follows (s ∷ top) fs h k = absurd (omega arith)

-- where the top is empty, the last list below takes its place
pub next_list : (top : List (Statement ℕ Callee Shape)) (old new : List (Bor (List (Statement ℕ Callee Shape)))) (f : Bor (List (Statement ℕ Callee Shape))) → length top ≡ 0 → old ≡ new ++ f ∷ [] → joined_statements (statements_in f.now) (below_of new) ≡ joined_statements (statements_in top) (below_of old)
next_list [] old new f h k = rw k (sym (below_last new f))
next_list (s ∷ top) old new f h k = absurd (omega arith)

pub fewer_lists : (n : ℕ) (old new : List (Bor (List (Statement ℕ Callee Shape)))) (f : Bor (List (Statement ℕ Callee Shape))) → old ≡ new ++ f ∷ [] → length old ≤ n → length new ≤ n
fewer_lists n old new f k h =
    let many = length-append new (f ∷ []) in
    let same : length old ≡ length (new ++ f ∷ []) = ap length k in
    omega arith
