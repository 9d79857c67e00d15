-- Loops that make a result of each item.
use Rattle.std.proofs.Common.{◌≡◌, ◌<◌, ◌+◌, ℕ, List, [], ◌∷◌, ◌++◌, Result, Ok, Err, refl, ap, map, drop, length, get_or}
use Rattle.std.proofs.lemmas.List.{drop_more}
use Rattle.ioa_values.specs.Outcome.{and_then}
use Rattle.ioa_refusals.specs.declared.refusal.Refusal.{Refusal}
use Rattle.ioa_sorts.specs.Statements.{all_ok}

abbrev pub results_are : {A : Type 0} → List A → Result (List A) Refusal
results_are xs = Ok xs

pushed : {B C : Type 0} (view : C → B) (done : List C) (c : C) (xs : List B) → map view done ++ view c ∷ xs ≡ map view (done ++ c ∷ []) ++ xs
pushed view [] c xs = refl
pushed view (d ∷ done) c xs = ap (λ ys. view d ∷ ys) (pushed view done c xs)

one_more : {B C : Type 0} (view : C → B) (done : List C) (c : C) (r : Result (List B) Refusal) → and_then (and_then r (λ xs. results_are (view c ∷ xs))) (λ xs. results_are (map view done ++ xs)) ≡ and_then r (λ xs. results_are (map view (done ++ c ∷ []) ++ xs))
one_more view done c (Ok xs) = ap results_are (pushed view done c xs)
one_more view done c (Err e) = refl

-- the results so far and those that are left, if one more was made
pub all_ok_more : {A B C D : Type 0} (f : A → Result B Refusal) (source : D → A) (view : C → B) (items : List D) (i : ℕ) (d : D) (done : List C) (c : C) → i < length items → d ≡ get_or items i d → f (source d) ≡ Ok (view c) → and_then (all_ok (map f (map source (drop i items)))) (λ xs. results_are (map view done ++ xs)) ≡ and_then (all_ok (map f (map source (drop (i + 1) items)))) (λ xs. results_are (map view (done ++ c ∷ []) ++ xs))
all_ok_more f source view items i d done c within at made =
    rw (drop_more items i d within, ← at, made) (one_more view done c (all_ok (map f (map source (drop (i + 1) items)))))

same_items : {B : Type 0} (xs : List B) → map (λ x. x) xs ≡ xs
same_items [] = refl
same_items (x ∷ xs) = ap (λ ys. x ∷ ys) (same_items xs)

-- the same if what is made is seen as it is
pub all_ok_more_same : {A B D : Type 0} (f : A → Result B Refusal) (source : D → A) (items : List D) (i : ℕ) (d : D) (done : List B) (c : B) → i < length items → d ≡ get_or items i d → f (source d) ≡ Ok c → and_then (all_ok (map f (map source (drop i items)))) (λ xs. results_are (done ++ xs)) ≡ and_then (all_ok (map f (map source (drop (i + 1) items)))) (λ xs. results_are ((done ++ c ∷ []) ++ xs))
all_ok_more_same f source items i d done c within at made =
    rw (same_items done, same_items (done ++ c ∷ [])) at (all_ok_more f source (λ x. x) items i d done c within at made)
