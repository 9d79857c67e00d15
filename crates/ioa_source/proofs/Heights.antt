-- The height of several parts is the greatest of their heights, and one more part makes it the greater of two.
use Rattle.std.proofs.Common.{◌≡◌, ℕ, max, List, [], ◌∷◌, ◌++◌, map, ap, refl, arith}
use Rattle.std.proofs.Math.Nat.{max_comm}
use Rattle.ioa_terms.specs.PlainTerm.{terms_of, statements_of, arms_of}
use Rattle.ioa_source.specs.Sides.{SourceTerm, SourceStatement, SourceStatements}
use Rattle.ioa_source.specs.Heights.{highest, height, heights, statement_height, statements_height, arm_height, arms_height}

max_assoc : (a b c : ℕ) → max a (max b c) ≡ max (max a b) c
max_assoc a b c = omega arith

pub highest_push : {A : Type 0} (h : A → ℕ) (xs : List A) (x : A) → highest (map h (xs ++ x ∷ [])) ≡ max (highest (map h xs)) (h x)
highest_push h [] x = max_comm (h x) 0
highest_push h (y ∷ xs) x = rw (highest_push h xs x) (max_assoc (h y) (highest (map h xs)) (h x))

pub terms_highest : {A : Type 0} (f : A → SourceTerm) (xs : List A) → heights (terms_of (map f xs)) ≡ highest (map (λ x. height (f x)) xs)
terms_highest f [] = refl
terms_highest f (x ∷ xs) = ap (max (height (f x))) (terms_highest f xs)

pub statements_highest : {A : Type 0} (f : A → SourceStatement) (xs : List A) →
    statements_height (statements_of (map f xs)) ≡ highest (map (λ x. statement_height (f x)) xs)
statements_highest f [] = refl
statements_highest f (x ∷ xs) = ap (max (statement_height (f x))) (statements_highest f xs)

pub arms_highest : {A : Type 0} (f : A → SourceTerm × SourceStatements) (xs : List A) →
    arms_height (arms_of (map f xs)) ≡ highest (map (λ x. arm_height (f x)) xs)
arms_highest f [] = refl
arms_highest f (x ∷ xs) = ap (max (arm_height (f x))) (arms_highest f xs)
