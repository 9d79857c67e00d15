-- Shapes and values one by one: at the end of the shorter list the lengths decide.
use Rattle.std.proofs.Common.{◌≡◌, ◌∙◌, ℕ, zero, suc, ◌+◌, ◌≤◌, ◌==◌, Bool, true, false, min, ◌&&◌, List, [], ◌∷◌, Some, length, drop, refl, ap, arith}
use Rattle.std.specs.List.{list_all}
use Rattle.ioa_values.specs.Collections.{keys_of, values_of}
use Rattle.ioa_values.specs.Data.{Data, items_of, entries_of}
use Rattle.std.specs.Prelude.{slice_get}
use Rattle.ioa_values.proofs.Steps.{drop_from}
use Rattle.ioa_values.specs.ItemKinds.{AreOfKind, is_of_kind}
use Rattle.ioa_values.specs.declared.item_kind.ItemKind.{ItemKind}
use Rattle.ioa_operators.specs.ShapeKinds.{AdmitsKind}
use Rattle.ioa_operators.specs.Shapes.{PlainShape, all_have, entries_have, has_shape, have_shapes, shapes_of, wide_shapes_if}
use Rattle.ioa_operators.proofs.SameLists.{same_ended}

pub have_shapes_ended : (also : Bool) (ss : List PlainShape) (ds : List Data) (i : ℕ) → i ≡ min (length ss) (length ds) → (length ss == length ds) ≡ have_shapes (wide_shapes_if also (shapes_of (drop i ss))) (items_of (drop i ds))
have_shapes_ended also ss ds i e =
    same_ended (λ ss ds. have_shapes (wide_shapes_if also (shapes_of ss)) (items_of ds)) refl (λ d ds. refl) (λ s ss. refl) ss ds i e

-- an item has the shape, or the sequence has not
pub others_have : (s : PlainShape) (xs : List Data) (i : ℕ) (x : Data) → slice_get xs i ≡ Some x → has_shape s x ≡ true → all_have s (items_of (drop i xs)) ≡ all_have s (items_of (drop (i + 1) xs))
others_have s xs i x h e = rw (drop_from xs i x h, e) refl

pub one_lacks : (s : PlainShape) (xs : List Data) (i : ℕ) (x : Data) → slice_get xs i ≡ Some x → has_shape s x ≡ false → all_have s (items_of (drop i xs)) ≡ false
one_lacks s xs i x h e = rw (drop_from xs i x h, e) refl

-- values of a kind have a shape that all values of the kind have
one_of_kind : (s : PlainShape) (kind : ItemKind) (d : Data) (ds : List Data) → AdmitsKind s kind → (AreOfKind kind ds → all_have s (items_of ds) ≡ true) →
    (t : Bool) → is_of_kind kind d ≡ t → (t && list_all (is_of_kind kind) ds) ≡ true → (has_shape s d && all_have s (items_of ds)) ≡ true
one_of_kind s kind d ds admits others true e h = rw (admits d e, others h) refl
one_of_kind s kind d ds admits others false e h = absurd (cc)

pub all_of_kind : (s : PlainShape) (kind : ItemKind) (ds : List Data) → AdmitsKind s kind → AreOfKind kind ds → all_have s (items_of ds) ≡ true
all_of_kind s kind [] admits h = refl
all_of_kind s kind (d ∷ ds) admits h = one_of_kind s kind d ds admits (all_of_kind s kind ds admits) (is_of_kind kind d) refl h

-- entries have two shapes if their keys have the one and their values the other
four_tests : (a b c d : Bool) → (a && (b && (c && d))) ≡ ((a && c) && (b && d))
four_tests true true c d = refl
four_tests true false true d = refl
four_tests true false false d = refl
four_tests false b c d = refl

pub entries_have_both : (k v : PlainShape) (es : List (Data × Data)) → entries_have k v (entries_of es) ≡ (all_have k (items_of (keys_of es)) && all_have v (items_of (values_of es)))
entries_have_both k v [] = refl
entries_have_both k v (e ∷ es) = ap (λ (b : Bool). has_shape k e.0 && (has_shape v e.1 && b)) (entries_have_both k v es) ∙ four_tests (has_shape k e.0) (has_shape v e.1) _ _

-- the key and the value of an entry
pub key_there : (es : List (Data × Data)) (i : ℕ) (k v : Data) → slice_get es i ≡ Some (k, v) → slice_get (keys_of es) i ≡ Some k
key_there [] i k v h = absurd (cc)
key_there (e ∷ es) zero k v h = let same : e ≡ (k, v) = cc in ap (λ (p : Data × Data). Some p.0) same
key_there (e ∷ es) (suc i) k v h = key_there es i k v h

pub value_there : (es : List (Data × Data)) (i : ℕ) (k v : Data) → slice_get es i ≡ Some (k, v) → slice_get (values_of es) i ≡ Some v
value_there [] i k v h = absurd (cc)
value_there (e ∷ es) zero k v h = let same : e ≡ (k, v) = cc in ap (λ (p : Data × Data). Some p.1) same
value_there (e ∷ es) (suc i) k v h = value_there es i k v h

-- behind the last one all have the shape
pub none_behind : (s : PlainShape) (xs : List Data) (i : ℕ) → length xs ≤ i → all_have s (items_of (drop i xs)) ≡ true
none_behind s [] zero h = refl
none_behind s [] (suc i) h = refl
none_behind s (x ∷ xs) zero h = absurd (omega arith)
none_behind s (x ∷ xs) (suc i) h = none_behind s xs i (omega arith)

-- as many values as entries
pub many_values : (es : List (Data × Data)) → length (values_of es) ≡ length es
many_values [] = refl
many_values (e ∷ es) = ap suc (many_values es)
