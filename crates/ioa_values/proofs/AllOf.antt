-- What holds of all items of two lists holds of all of both, and back; and of all items of a list, one after another.
use Rattle.std.proofs.Common.{◌≡◌, ℕ, zero, suc, ◌+◌, ◌<◌, List, [], ◌∷◌, ◌++◌, length, take, get_or, subst, arith, add-one}
use Rattle.std.specs.List.{AllByRecursion}

pub all_appended : {A : Type 0} (P : A → Type 0) (xs ys : List A) → AllByRecursion P xs → AllByRecursion P ys → AllByRecursion P (xs ++ ys)
all_appended P [] ys h k = k
all_appended P (x ∷ xs) ys h k = (h.0, all_appended P xs ys h.1 k)

pub all_parts : {A : Type 0} (P : A → Type 0) (xs ys : List A) → AllByRecursion P (xs ++ ys) → AllByRecursion P xs × AllByRecursion P ys
all_parts P [] ys h = (tt, h)
all_parts P (x ∷ xs) ys h = let rest = all_parts P xs ys h.1 in ((h.0, rest.0), rest.1)

-- one more item behind the others
pub all_pushed : {A : Type 0} (P : A → Type 0) (xs : List A) (x : A) → AllByRecursion P xs → P x → AllByRecursion P (xs ++ x ∷ [])
all_pushed P xs x h p = all_appended P xs (x ∷ []) h (p, tt)

-- one more of the first items of a list
all_next : {A : Type 0} (P : A → Type 0) (xs : List A) (i : ℕ) (x : A) → AllByRecursion P (take i xs) → P x → i < length xs → x ≡ get_or xs i x → AllByRecursion P (take (suc i) xs)
all_next P [] i x h p within at = absurd (omega arith)
all_next P (y ∷ ys) zero x h p within at = (subst P at p, tt)
all_next P (y ∷ ys) (suc i) x h p within at = (h.0, all_next P ys i x h.1 p (omega arith) at)

pub all_more : {A : Type 0} (P : A → Type 0) (xs : List A) (i : ℕ) (x : A) → AllByRecursion P (take i xs) → P x → i < length xs → x ≡ get_or xs i x → AllByRecursion P (take (i + 1) xs)
all_more P xs i x h p within at = rw add-one (all_next P xs i x h p within at)
