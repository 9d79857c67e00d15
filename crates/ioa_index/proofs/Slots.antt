-- What stands in a slot of a list.
use Rattle.std.proofs.Common.{◌≡◌, ◌+◌, ℕ, suc, Bool, true, false, List, [], ◌∷◌, ◌++◌, Some, None, refl, subst, map, length, append_assoc, arith}
use Rattle.std.specs.Prelude.{cond, find, slice_get}
use Rattle.std.specs.List.{position_from}
use Rattle.std.proofs.lemmas.List.{length-append}

-- an item behind others is in the slot of their number
pub get_behind : {A : Type 0} (front : List A) (x : A) (more : List A) → slice_get (front ++ x ∷ more) (length front) ≡ Some x
get_behind [] x more = refl
get_behind (y ∷ front) x more = get_behind front x more

-- one more in front is one slot more
pub one_more : {A : Type 0} (front : List A) (x : A) → length (front ++ x ∷ []) ≡ suc (length front)
one_more front x = omega (arith, length-append front (x ∷ []))

-- where the first item of a kind stands, that item is found
pub position_get : {A B : Type 0} (p : B → Bool) (f : A → B) (front xs : List A) (m : ℕ) → position_from p (length front) (map f xs) ≡ Some m → slice_get (front ++ xs) m ≡ find (λ x. p (f x)) xs
position_get p f front [] m h = absurd (cc)
position_get p f front (x ∷ xs) m h = by_test (p (f x)) refl h (position_get p f (front ++ x ∷ []) xs m)
  where
    by_test : (b : Bool) → p (f x) ≡ b → cond b (Some (length front)) (position_from p (length front + 1) (map f xs)) ≡ Some m →
        (position_from p (length (front ++ x ∷ [])) (map f xs) ≡ Some m → slice_get ((front ++ x ∷ []) ++ xs) m ≡ find (λ y. p (f y)) xs) →
        slice_get (front ++ x ∷ xs) m ≡ cond b (Some x) (find (λ y. p (f y)) xs)
    by_test true e g further = let here : length front ≡ m = cc in rw (← here) (get_behind front x xs)
    by_test false e g further =
        let next : length front + 1 ≡ length (front ++ x ∷ []) = omega (arith, one_more front x) in
        let split : (front ++ x ∷ []) ++ xs ≡ front ++ x ∷ xs = append_assoc front (x ∷ []) xs in
        subst (λ (ys : List _). slice_get ys m ≡ find (λ y. p (f y)) xs) split (further (subst (λ (n : ℕ). position_from p n (map f xs) ≡ Some m) next g))

-- if none stands anywhere, none is found
pub position_none : {A B : Type 0} (p : B → Bool) (f : A → B) (n : ℕ) (xs : List A) → position_from p n (map f xs) ≡ None → find (λ x. p (f x)) xs ≡ None
position_none p f n [] h = refl
position_none p f n (x ∷ xs) h = by_test (p (f x)) h (λ g. position_none p f (n + 1) xs g)
  where
    by_test : (b : Bool) → cond b (Some n) (position_from p (n + 1) (map f xs)) ≡ None → (position_from p (n + 1) (map f xs) ≡ None → find (λ y. p (f y)) xs ≡ None) → cond b (Some x) (find (λ y. p (f y)) xs) ≡ None
    by_test true g further = absurd (cc)
    by_test false g further = further g
