-- Items of two kinds are of the kind that these have in common.
use Rattle.std.proofs.Common.{◌≡◌, ℕ, zero, suc, min, Bool, true, false, ◌&&◌, ◌+◌, ◌<◌, List, [], ◌∷◌, ◌++◌, refl, subst, arith, length, get_or, take}
use native.Mathlib.Numerals.{unary_clauses}
use Rattle.std.specs.Prelude.{max}
use Rattle.std.specs.List.{list_all}
use Rattle.std.proofs.lemmas.Bool.Decides.{nat_tests}
use Rattle.std.proofs.lemmas.List.Folds.{list_all-append}
use Rattle.ioa_values.specs.Collections.{keys_of, values_of, with_member, without_member, with_entry, without_key}
use Rattle.ioa_values.specs.Data.{Data, number, constant}
use Rattle.ioa_values.specs.DataOrder.{data_cmp}
use Rattle.ioa_values.specs.ItemKinds.{AreOfKind, common_kind, is_of_kind}
use Rattle.ioa_values.specs.declared.item_kind.ItemKind.{ItemKind}
use Rattle.ioa_values.specs.declared.item_kind.ItemKind.TheVariants.{Nothing, Truths, Naturals, Integers, Constants, Any}
use Rattle.ioa_values.proofs.Ascending.{by_each}

naturals_are : (d : Data) → is_of_kind Naturals d ≡ true → is_of_kind Integers d ≡ true
naturals_are (number z) h = refl
naturals_are d h = absurd (cc)

left_constants : (k l m n : ℕ) (d : Data) → is_of_kind (Constants k l) d ≡ true → is_of_kind (Constants (min k m) (max l n)) d ≡ true
left_constants k l m n (constant i) h = grind (arith, nat_tests)
left_constants k l m n d h = absurd (cc)

right_constants : (k l m n : ℕ) (d : Data) → is_of_kind (Constants m n) d ≡ true → is_of_kind (Constants (min k m) (max l n)) d ≡ true
right_constants k l m n (constant i) h = grind (arith, nat_tests)
right_constants k l m n d h = absurd (cc)

left_kind : (a b : ItemKind) (d : Data) → is_of_kind a d ≡ true → is_of_kind (common_kind a b) d ≡ true
left_kind Nothing b d h = absurd (cc)
left_kind Any Nothing d h = refl
left_kind Truths Nothing d h = h
left_kind Naturals Nothing d h = h
left_kind Integers Nothing d h = h
left_kind (Constants k l) Nothing d h = h
left_kind Any b d h = refl
left_kind Truths Truths d h = h
left_kind Naturals Naturals d h = h
left_kind Naturals Integers d h = naturals_are d h
left_kind Integers Naturals d h = h
left_kind Integers Integers d h = h
left_kind (Constants k l) (Constants m n) d h = left_constants k l m n d h
left_kind a b d h = refl

right_kind : (a b : ItemKind) (d : Data) → is_of_kind b d ≡ true → is_of_kind (common_kind a b) d ≡ true
right_kind Nothing b d h = h
right_kind a Nothing d h = absurd (cc)
right_kind Any b d h = refl
right_kind Truths Truths d h = h
right_kind Naturals Naturals d h = h
right_kind Naturals Integers d h = h
right_kind Integers Naturals d h = naturals_are d h
right_kind Integers Integers d h = h
right_kind (Constants k l) (Constants m n) d h = right_constants k l m n d h
right_kind a b d h = refl

-- one more value has what the others have
with_first : (p q : Data → Bool) (d : Data) (ds : List Data) → (p d ≡ true → q d ≡ true) → (list_all p ds ≡ true → list_all q ds ≡ true) →
    (t : Bool) → p d ≡ t → (t && list_all p ds) ≡ true → (q d && list_all q ds) ≡ true
with_first p q d ds f g true e h = rw (f e, g h) refl
with_first p q d ds f g false e h = absurd (cc)

-- each of the values has what follows from what it has
all_wider : (p q : Data → Bool) (ds : List Data) → ((d : Data) → p d ≡ true → q d ≡ true) → list_all p ds ≡ true → list_all q ds ≡ true
all_wider p q [] f h = refl
all_wider p q (d ∷ ds) f h = with_first p q d ds (f d) (all_wider p q ds f) (p d) refl h

pub of_common_kind : (a b : ItemKind) (xs ys : List Data) → AreOfKind a xs → AreOfKind b ys → AreOfKind (common_kind a b) (xs ++ ys)
of_common_kind a b xs ys h k =
    let left = all_wider (is_of_kind a) (is_of_kind (common_kind a b)) xs (left_kind a b) h in
    let right = all_wider (is_of_kind b) (is_of_kind (common_kind a b)) ys (right_kind a b) k in
    rw (list_all-append (is_of_kind (common_kind a b)) xs ys, left, right) refl

-- values of a kind are of each that it has in common with another
wider : (a b : ItemKind) (ds : List Data) → AreOfKind a ds → AreOfKind (common_kind a b) ds
wider a b ds h = all_wider (is_of_kind a) (is_of_kind (common_kind a b)) ds (left_kind a b) h

-- two that are both true
both_parts : (p q : Bool) → (p && q) ≡ true → (p ≡ true) × (q ≡ true)
both_parts true true h = (refl, refl)
both_parts true false h = absurd (cc)
both_parts false q h = absurd (cc)

both_true : (p q : Bool) → p ≡ true → q ≡ true → (p && q) ≡ true
both_true p q h g = rw (h, g) refl

-- one more value of a list, key of entries, and value of entries
pub kind_more : (a b : ItemKind) (ds : List Data) (i : ℕ) (d : Data) → AreOfKind a (take i ds) → is_of_kind b d ≡ true → i < length ds → d ≡ get_or ds i d → AreOfKind (common_kind a b) (take (i + 1) ds)
kind_more a b [] i d h g within at = absurd (omega arith)
kind_more a b (c ∷ ds) zero d h g within at = both_true (is_of_kind (common_kind a b) c) true (subst (λ (x : Data). is_of_kind (common_kind a b) x ≡ true) at (right_kind a b d g)) refl
kind_more a b (c ∷ ds) (suc i) d h g within at =
    let parts = both_parts (is_of_kind a c) (list_all (is_of_kind a) (take i ds)) h in
    simp unary_clauses (both_true (is_of_kind (common_kind a b) c) (list_all (is_of_kind (common_kind a b)) (take (suc i) ds)) (left_kind a b c parts.0) (simp unary_clauses at (kind_more a b ds i d parts.1 g (omega arith) at)))

pub key_kind_more : (a b : ItemKind) (es : List (Data × Data)) (i : ℕ) (e : Data × Data) → AreOfKind a (keys_of (take i es)) → is_of_kind b e.0 ≡ true → i < length es → e ≡ get_or es i e → AreOfKind (common_kind a b) (keys_of (take (i + 1) es))
key_kind_more a b [] i e h g within at = absurd (omega arith)
key_kind_more a b (c ∷ es) zero e h g within at = both_true (is_of_kind (common_kind a b) c.0) true (subst (λ (x : Data × Data). is_of_kind (common_kind a b) x.0 ≡ true) at (right_kind a b e.0 g)) refl
key_kind_more a b (c ∷ es) (suc i) e h g within at =
    let parts = both_parts (is_of_kind a c.0) (list_all (is_of_kind a) (keys_of (take i es))) h in
    simp unary_clauses (both_true (is_of_kind (common_kind a b) c.0) (list_all (is_of_kind (common_kind a b)) (keys_of (take (suc i) es))) (left_kind a b c.0 parts.0) (simp unary_clauses at (key_kind_more a b es i e parts.1 g (omega arith) at)))

pub value_kind_more : (a b : ItemKind) (es : List (Data × Data)) (i : ℕ) (e : Data × Data) → AreOfKind a (values_of (take i es)) → is_of_kind b e.1 ≡ true → i < length es → e ≡ get_or es i e → AreOfKind (common_kind a b) (values_of (take (i + 1) es))
value_kind_more a b [] i e h g within at = absurd (omega arith)
value_kind_more a b (c ∷ es) zero e h g within at = both_true (is_of_kind (common_kind a b) c.1) true (subst (λ (x : Data × Data). is_of_kind (common_kind a b) x.1 ≡ true) at (right_kind a b e.1 g)) refl
value_kind_more a b (c ∷ es) (suc i) e h g within at =
    let parts = both_parts (is_of_kind a c.1) (list_all (is_of_kind a) (values_of (take i es))) h in
    simp unary_clauses (both_true (is_of_kind (common_kind a b) c.1) (list_all (is_of_kind (common_kind a b)) (values_of (take (suc i) es))) (left_kind a b c.1 parts.0) (simp unary_clauses at (value_kind_more a b es i e parts.1 g (omega arith) at)))

-- what all have, all have with one more, and without one
true_with : (p : Data → Bool) (d : Data) (ds : List Data) → list_all p ds ≡ true → p d ≡ true → list_all p (with_member d ds) ≡ true
true_with p d [] h g = both_true (p d) true g refl
true_with p d (x ∷ xs) h g =
    let parts = both_parts (p x) (list_all p xs) h in
    by_each (λ (l : List Data). list_all p l ≡ true) (data_cmp d x) (d ∷ x ∷ xs) (x ∷ xs) (x ∷ with_member d xs)
    (λ e. both_true (p d) (list_all p (x ∷ xs)) g h) (λ e. h)
    (λ e. both_true (p x) (list_all p (with_member d xs)) parts.0 (true_with p d xs parts.1 g))

true_with_value : (p : Data → Bool) (k v : Data) (es : List (Data × Data)) → list_all p (values_of es) ≡ true → p v ≡ true → list_all p (values_of (with_entry k v es)) ≡ true
true_with_value p k v [] h g = both_true (p v) true g refl
true_with_value p k v (e ∷ es) h g =
    let parts = both_parts (p e.1) (list_all p (values_of es)) h in
    by_each (λ (l : List (Data × Data)). list_all p (values_of l) ≡ true) (data_cmp k e.0) ((k, v) ∷ e ∷ es) ((k, v) ∷ es) (e ∷ with_entry k v es)
    (λ o. both_true (p v) (list_all p (values_of (e ∷ es))) g h)
    (λ o. both_true (p v) (list_all p (values_of es)) g parts.1)
    (λ o. both_true (p e.1) (list_all p (values_of (with_entry k v es))) parts.0 (true_with_value p k v es parts.1 g))

pub kind_without : (kind : ItemKind) (d : Data) (ds : List Data) → AreOfKind kind ds → AreOfKind kind (without_member d ds)
kind_without kind d [] h = refl
kind_without kind d (x ∷ xs) h =
    let parts = both_parts (is_of_kind kind x) (list_all (is_of_kind kind) xs) h in
    by_each (AreOfKind kind) (data_cmp d x) (x ∷ xs) xs (x ∷ without_member d xs)
    (λ e. h) (λ e. parts.1)
    (λ e. both_true (is_of_kind kind x) (list_all (is_of_kind kind) (without_member d xs)) parts.0 (kind_without kind d xs parts.1))

pub value_kind_without : (kind : ItemKind) (k : Data) (es : List (Data × Data)) → AreOfKind kind (values_of es) → AreOfKind kind (values_of (without_key k es))
value_kind_without kind k [] h = refl
value_kind_without kind k (e ∷ es) h =
    let parts = both_parts (is_of_kind kind e.1) (list_all (is_of_kind kind) (values_of es)) h in
    by_each (λ (l : List (Data × Data)). AreOfKind kind (values_of l)) (data_cmp k e.0) (e ∷ es) es (e ∷ without_key k es)
    (λ o. h) (λ o. parts.1)
    (λ o. both_true (is_of_kind kind e.1) (list_all (is_of_kind kind) (values_of (without_key k es))) parts.0 (value_kind_without kind k es parts.1))

-- all are then of what the two kinds have in common
pub kind_with : (a b : ItemKind) (d : Data) (ds : List Data) → AreOfKind a ds → is_of_kind b d ≡ true → AreOfKind (common_kind a b) (with_member d ds)
kind_with a b d ds h g = true_with (is_of_kind (common_kind a b)) d ds (wider a b ds h) (right_kind a b d g)

pub value_kind_with : (a b : ItemKind) (k v : Data) (es : List (Data × Data)) → AreOfKind a (values_of es) → is_of_kind b v ≡ true → AreOfKind (common_kind a b) (values_of (with_entry k v es))
value_kind_with a b k v es h g = true_with_value (is_of_kind (common_kind a b)) k v es (wider a b (values_of es) h) (right_kind a b v g)
