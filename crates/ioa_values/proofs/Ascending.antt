-- Only ascending lists arise: each operation on sets and maps keeps them so.
use Rattle.std.proofs.Common.{◌≡◌, ◌∙◌, false, List, [], ◌∷◌, Option, Some, None, refl, ap}
use Rattle.std.specs.List.{AllByRecursion}
use Rattle.std.specs.Option.{is_some}
use Rattle.std.specs.declared.cmp.Ordering.{Ordering}
use Rattle.std.specs.declared.cmp.Ordering.TheVariants.{Less, Equal, Greater}
use Rattle.std.specs.Ordering.{ordering_reverse}
use Rattle.ioa_values.specs.Data.{Data}
use Rattle.ioa_values.specs.DataOrder.{data_cmp, data_cmp_total}
use Rattle.ioa_values.specs.Collections.{by_order, IsAscending, is_member, with_member, without_member, set_of, union, keys_of, value_at, with_entry, without_key}
use Rattle.ioa_values.proofs.Equality.{tied_equal}

-- what holds of each of three in its case holds of the one that the order chooses
pub by_each : {X : Type 0} (Q : X → Type 0) (o : Ordering) (less equal greater : X) → (o ≡ Less → Q less) → (o ≡ Equal → Q equal) → (o ≡ Greater → Q greater) → Q (by_order o less equal greater)
by_each Q Less less equal greater p q r = p refl
by_each Q Equal less equal greater p q r = q refl
by_each Q Greater less equal greater p q r = r refl

-- a function of the one that the order chooses
pub of_each : {X Y : Type 0} (f : X → Y) (o : Ordering) (less equal greater : X) → f (by_order o less equal greater) ≡ by_order o (f less) (f equal) (f greater)
of_each f Less less equal greater = refl
of_each f Equal less equal greater = refl
of_each f Greater less equal greater = refl

-- the order the other way round
pub cmp_reverse : (a b : Data) (o : Ordering) → data_cmp a b ≡ o → data_cmp b a ≡ ordering_reverse o
cmp_reverse a b o e = data_cmp_total.antisymm b a ∙ ap ordering_reverse e

-- what comes before a value comes before all behind it
pub all_later : (d x : Data) (xs : List Data) → data_cmp d x ≡ Less → AllByRecursion (λ y. data_cmp x y ≡ Less) xs → AllByRecursion (λ y. data_cmp d y ≡ Less) xs
all_later d x [] e h = tt
all_later d x (y ∷ ys) e h = (data_cmp_total.trans d x y e h.0, all_later d x ys e h.1)

-- what holds of all members and of one more value holds of all members of the set with that value
pub all_with : (P : Data → Type 0) (d : Data) (xs : List Data) → P d → AllByRecursion P xs → AllByRecursion P (with_member d xs)
all_with P d [] p h = (p, tt)
all_with P d (x ∷ xs) p h =
    by_each (AllByRecursion P) (data_cmp d x) (d ∷ x ∷ xs) (x ∷ xs) (x ∷ with_member d xs)
    (λ e. (p, h)) (λ e. h) (λ e. (h.0, all_with P d xs p h.1))

-- what holds of all members holds of those that are left
pub all_without : (P : Data → Type 0) (d : Data) (xs : List Data) → AllByRecursion P xs → AllByRecursion P (without_member d xs)
all_without P d [] h = tt
all_without P d (x ∷ xs) h =
    by_each (AllByRecursion P) (data_cmp d x) (x ∷ xs) xs (x ∷ without_member d xs)
    (λ e. h) (λ e. h.1) (λ e. (h.0, all_without P d xs h.1))

-- a set with one more member ascends
pub with_member_ascends : (d : Data) (xs : List Data) → IsAscending xs → IsAscending (with_member d xs)
with_member_ascends d [] a = (tt, tt)
with_member_ascends d (x ∷ xs) a =
    by_each IsAscending (data_cmp d x) (d ∷ x ∷ xs) (x ∷ xs) (x ∷ with_member d xs)
    (λ e. ((e, all_later d x xs e a.0), a)) (λ e. a)
    (λ e. (all_with (λ y. data_cmp x y ≡ Less) d xs (cmp_reverse d x Greater e) a.0, with_member_ascends d xs a.1))

-- a set without a member ascends
pub without_member_ascends : (d : Data) (xs : List Data) → IsAscending xs → IsAscending (without_member d xs)
without_member_ascends d [] a = tt
without_member_ascends d (x ∷ xs) a =
    by_each IsAscending (data_cmp d x) (x ∷ xs) xs (x ∷ without_member d xs)
    (λ e. a) (λ e. a.1)
    (λ e. (all_without (λ y. data_cmp x y ≡ Less) d xs a.0, without_member_ascends d xs a.1))

-- a set made of a list ascends
pub set_of_ascends : (ds : List Data) → IsAscending (set_of ds)
set_of_ascends [] = tt
set_of_ascends (d ∷ ds) = with_member_ascends d (set_of ds) (set_of_ascends ds)

-- the members of either of two sets ascend
pub union_ascends : (xs ys : List Data) → IsAscending ys → IsAscending (union xs ys)
union_ascends [] ys a = a
union_ascends (x ∷ xs) ys a = with_member_ascends x (union xs ys) (union_ascends xs ys a)

-- the keys with one more entry are the keys with one more member
pub keys_with : (k v : Data) (es : List (Data × Data)) → keys_of (with_entry k v es) ≡ with_member k (keys_of es)
keys_with k v [] = refl
keys_with k v (p ∷ more) =
    by_each (λ (es : List (Data × Data)). keys_of es ≡ with_member k (keys_of (p ∷ more))) (data_cmp k p.0)
    ((k, v) ∷ p ∷ more) ((k, v) ∷ more) (p ∷ with_entry k v more)
    (λ e. rw e refl)
    (λ e. rw e (ap (λ (d : Data). d ∷ keys_of more) (tied_equal k p.0 e)))
    (λ e. rw e (ap (λ (ds : List Data). p.0 ∷ ds) (keys_with k v more)))

-- the keys without an entry are the keys without a member
pub keys_without : (k : Data) (es : List (Data × Data)) → keys_of (without_key k es) ≡ without_member k (keys_of es)
keys_without k [] = refl
keys_without k (p ∷ more) =
    of_each keys_of (data_cmp k p.0) (p ∷ more) more (p ∷ without_key k more)
    ∙ ap (λ (ds : List Data). by_order (data_cmp k p.0) (p.0 ∷ keys_of more) (keys_of more) (p.0 ∷ ds)) (keys_without k more)

-- a map with one more entry ascends
pub with_entry_ascends : (k v : Data) (es : List (Data × Data)) → IsAscending (keys_of es) → IsAscending (keys_of (with_entry k v es))
with_entry_ascends k v es a = rw (keys_with k v es) (with_member_ascends k (keys_of es) a)

-- a map without a key ascends
pub without_key_ascends : (k : Data) (es : List (Data × Data)) → IsAscending (keys_of es) → IsAscending (keys_of (without_key k es))
without_key_ascends k es a = rw (keys_without k es) (without_member_ascends k (keys_of es) a)

-- a value before all of them is no member
pub none_same : (d : Data) (xs : List Data) → AllByRecursion (λ y. data_cmp d y ≡ Less) xs → is_member d xs ≡ false
none_same d [] h = refl
none_same d (x ∷ xs) h = rw h.0 (none_same d xs h.1)

-- a map has a value at its keys alone
pub key_is_member : (k : Data) (es : List (Data × Data)) → IsAscending (keys_of es) → is_member k (keys_of es) ≡ is_some (value_at k es)
key_is_member k [] a = refl
key_is_member k (p ∷ more) a =
    by_each (λ (o : Option Data). is_member k (p.0 ∷ keys_of more) ≡ is_some o) (data_cmp k p.0) None (Some p.1) (value_at k more)
    (λ e. rw e (none_same k (keys_of more) (all_later k p.0 (keys_of more) e a.0)))
    (λ e. rw e refl)
    (λ e. rw e (key_is_member k more a.1))
