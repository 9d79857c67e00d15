-- What holds of all values or of all entries of a list holds of what the operations on sets and maps make of it.
use Rattle.std.proofs.Common.{ℕ, zero, suc, List, [], ◌∷◌, Option, Some, None}
use Rattle.std.specs.Prelude.{slice_get, slice_set}
use Rattle.std.specs.List.{AllByRecursion}
use Rattle.std.specs.Option.{IfSome}
use Rattle.ioa_values.specs.Data.{Data}
use Rattle.ioa_values.specs.DataOrder.{data_cmp}
use Rattle.ioa_values.specs.Collections.{set_of, union, value_at, with_entry, without_key}
use Rattle.ioa_values.proofs.Ascending.{by_each, all_with}

-- the value at a position
pub one_of_all : (P : Data → Type 0) (xs : List Data) (i : ℕ) → AllByRecursion P xs → IfSome (slice_get xs i) P
one_of_all P [] i h = tt
one_of_all P (x ∷ xs) zero h = h.0
one_of_all P (x ∷ xs) (suc i) h = one_of_all P xs i h.1

-- a list in which one value is replaced by another
pub all_replaced : (P : Data → Type 0) (xs : List Data) (i : ℕ) (v : Data) → P v → AllByRecursion P xs → AllByRecursion P (slice_set xs i v)
all_replaced P [] i v p h = tt
all_replaced P (x ∷ xs) zero v p h = (p, h.1)
all_replaced P (x ∷ xs) (suc i) v p h = (h.0, all_replaced P xs i v p h.1)

-- the set of a list, and the union of two sets
pub all_of_list : (P : Data → Type 0) (ds : List Data) → AllByRecursion P ds → AllByRecursion P (set_of ds)
all_of_list P [] h = tt
all_of_list P (d ∷ ds) h = all_with P d (set_of ds) h.0 (all_of_list P ds h.1)

pub all_of_either : (P : Data → Type 0) (xs ys : List Data) → AllByRecursion P xs → AllByRecursion P ys → AllByRecursion P (union xs ys)
all_of_either P [] ys h k = k
all_of_either P (x ∷ xs) ys h k = all_with P x (union xs ys) h.0 (all_of_either P xs ys h.1 k)

-- a map with one more entry, a map without a key, and the value at a key
pub all_with_entry : (P : Data × Data → Type 0) (k v : Data) (es : List (Data × Data)) → P (k, v) → AllByRecursion P es → AllByRecursion P (with_entry k v es)
all_with_entry P k v [] p h = (p, tt)
all_with_entry P k v (e ∷ es) p h =
    by_each (AllByRecursion P) (data_cmp k e.0) ((k, v) ∷ e ∷ es) ((k, v) ∷ es) (e ∷ with_entry k v es)
    (λ l. (p, h)) (λ l. (p, h.1)) (λ l. (h.0, all_with_entry P k v es p h.1))

pub all_without_key : (P : Data × Data → Type 0) (k : Data) (es : List (Data × Data)) → AllByRecursion P es → AllByRecursion P (without_key k es)
all_without_key P k [] h = tt
all_without_key P k (e ∷ es) h =
    by_each (AllByRecursion P) (data_cmp k e.0) (e ∷ es) es (e ∷ without_key k es)
    (λ l. h) (λ l. h.1) (λ l. (h.0, all_without_key P k es h.1))

pub value_at_holds : (P Q : Data → Type 0) (k : Data) (es : List (Data × Data)) → AllByRecursion (λ e. P e.0 × Q e.1) es → IfSome (value_at k es) Q
value_at_holds P Q k [] h = tt
value_at_holds P Q k (e ∷ es) h =
    by_each (λ (o : Option Data). IfSome o Q) (data_cmp k e.0) None (Some e.1) (value_at k es)
    (λ l. tt) (λ l. h.0.1) (λ l. value_at_holds P Q k es h.1)
