-- Fields of tuples: how many there are.
use Rattle.std.proofs.Common.{◌≡◌, ℕ, suc, ◌==◌, ◌&&◌, Bool, true, false, List, [], ◌∷◌, length, refl, arith}
use Rattle.std.proofs.lemmas.Bool.Decides.{nat_tests}
use Rattle.ioa_values.specs.Data.{Data, items_of}
use Rattle.ioa_operators.specs.Shapes.{PlainShape, shapes_of}
use Rattle.ioa_show.specs.Json.{as_many}

-- two numbers, and one and none
same_next : (m n : ℕ) → (m == n) ≡ (suc m == suc n)
same_next m n = grind (arith, nat_tests)

none_one : (n : ℕ) → false ≡ (0 == suc n)
none_one n = grind (arith, nat_tests)

one_none : (n : ℕ) → false ≡ (suc n == 0)
one_none n = grind (arith, nat_tests)

-- a test that fails anyway
fails_so : (b : Bool) → false ≡ (b && false)
fails_so true = refl
fails_so false = refl

-- as many of each as the lengths say
pub counted : (ds : List Data) (xs : List (List ℕ)) (ss : List PlainShape) → as_many (items_of ds) xs (shapes_of ss) ≡ ((length ds == length xs) && (length ds == length ss))
counted [] [] [] = refl
counted [] [] (s ∷ ss) = none_one (length ss)
counted [] (x ∷ xs) ss = rw (← none_one (length xs)) refl
counted (d ∷ ds) [] ss = rw (← one_none (length ds)) refl
counted (d ∷ ds) (x ∷ xs) [] = rw (← one_none (length ds)) (fails_so (suc (length ds) == suc (length xs)))
counted (d ∷ ds) (x ∷ xs) (s ∷ ss) =
    rw (← same_next (length ds) (length xs), ← same_next (length ds) (length ss)) (counted ds xs ss)
