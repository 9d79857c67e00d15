-- Results that are there, one after another.
use Rattle.std.proofs.Common.{◌≡◌, List, [], ◌∷◌, Result, Ok, Err, refl, subst, map}
use Rattle.std.specs.List.{AllZip}
use Rattle.ioa_values.specs.Outcome.{and_then}
use Rattle.ioa_refusals.specs.declared.refusal.Refusal.{Refusal}
use Rattle.ioa_sorts.specs.Statements.{all_ok}
use Rattle.ioa_automata.proofs.Loops.{results_are}

-- a result that is there
abbrev pub result_is : {A : Type 0} → A → Result A Refusal
result_is x = Ok x

-- of two results the second is there only if the first is
pub first_of : {A B : Type 0} (r : Result A Refusal) (f : A → Result B Refusal) (y : B) → and_then r f ≡ result_is y → (x : A) × (r ≡ result_is x) × (f x ≡ result_is y)
first_of (Ok x) f y h = (x, refl, h)
first_of (Err e) f y h = absurd (cc)

-- each of results that are all there
pub all_ok_each : {A B : Type 0} (f : A → Result B Refusal) (xs : List A) (ys : List B) → all_ok (map f xs) ≡ results_are ys → AllZip (λ x y. f x ≡ result_is y) xs ys
all_ok_each f [] ys h = let same : [] ≡ ys = cc in subst (AllZip (λ x y. f x ≡ result_is y) []) same tt
all_ok_each f (x ∷ xs) ys h =
    let one = first_of (f x) (λ z. and_then (all_ok (map f xs)) (λ zs. results_are (z ∷ zs))) ys h in
    let two = first_of (all_ok (map f xs)) (λ zs. results_are (one.0 ∷ zs)) ys one.2 in
    let same : one.0 ∷ two.0 ≡ ys = cc in
    subst (AllZip (λ x y. f x ≡ result_is y) (x ∷ xs)) same (one.1, all_ok_each f xs two.0 two.1)

pub zip_weaker : {A B : Type 0} (R S : A → B → Type 0) → ((x : A) (y : B) → R x y → S x y) → (xs : List A) (ys : List B) → AllZip R xs ys → AllZip S xs ys
zip_weaker R S f [] [] h = tt
zip_weaker R S f [] (y ∷ ys) h = absurd h
zip_weaker R S f (x ∷ xs) [] h = absurd h
zip_weaker R S f (x ∷ xs) (y ∷ ys) h = (f x y h.0, zip_weaker R S f xs ys h.1)
