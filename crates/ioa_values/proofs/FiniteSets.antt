-- What a change of entries is for the set, or the map, that they are.
use Rattle.std.proofs.Common.{◌≡◌, ℕ, zero, suc, ◌+◌, ◌^◌, ◌<◌, ◌≤◌, List, [], ◌∷◌, Some, true, refl, ap, arith, length}
use Rattle.std.specs.Prelude.{slice_get}
use Rattle.std.specs.List.{AllByRecursion}
use Rattle.ioa_values.specs.Data.{Data, truth}
use Rattle.ioa_values.specs.DataOrder.{data_cmp}
use Rattle.ioa_values.specs.Canonical.{IsCanonicalEntry, AllCanonical, AllEntriesCanonical}
use Rattle.ioa_values.specs.Collections.{IsAscending, keys_of, with_entry, without_key}
use Rattle.ioa_values.specs.EntryTrees.{entries_with}
use Rattle.ioa_values.specs.FiniteSets.{IsUnit, IsMap, IsSet}
use Rattle.ioa_values.specs.ItemKinds.{AreOfKind, common_kind, is_of_kind}
use Rattle.ioa_values.specs.declared.item_kind.ItemKind.{ItemKind}
use Rattle.ioa_values.proofs.AllKept.{all_with_entry, all_without_key}
use Rattle.ioa_values.proofs.Ascending.{by_each, keys_with, keys_without, with_entry_ascends, without_key_ascends}
use Rattle.ioa_values.proofs.EntryTrees.{keys_of_all, many_keys}
use Rattle.ioa_values.proofs.ItemKinds.{kind_with, kind_without, value_kind_with, value_kind_without}

-- how many there are with one more, and without one
pub most_with : (k v : Data) (es : List (Data × Data)) → length (with_entry k v es) ≤ length es + 1
most_with k v [] = omega arith
most_with k v (e ∷ es) =
    by_each (λ (l : List (Data × Data)). length l ≤ length {A = Data × Data} (e ∷ es) + 1) (data_cmp k e.0) ((k, v) ∷ e ∷ es) ((k, v) ∷ es) (e ∷ with_entry k v es)
    (λ o. omega arith) (λ o. omega arith) (λ o. omega (arith, most_with k v es))

pub most_without : (k : Data) (es : List (Data × Data)) → length (without_key k es) ≤ length es
most_without k [] = omega arith
most_without k (e ∷ es) =
    by_each (λ (l : List (Data × Data)). length l ≤ length {A = Data × Data} (e ∷ es)) (data_cmp k e.0) (e ∷ es) es (e ∷ without_key k es)
    (λ o. omega arith) (λ o. omega arith) (λ o. omega (arith, most_without k es))

-- the keys of canonical entries are canonical
pub canonical_keys : (es : List (Data × Data)) → AllEntriesCanonical es → AllCanonical (keys_of es)
canonical_keys [] h = tt
canonical_keys (e ∷ es) h = (h.0.0, canonical_keys es h.1)

-- a set with one more member, and without one
pub set_with : (d : Data) (es : List (Data × Data)) (kind more : ItemKind) → IsSet es kind → IsCanonicalEntry (d, truth true) → is_of_kind more d ≡ true → length es + 1 < 2 ^ 63 → IsSet (with_entry d (truth true) es) (common_kind kind more)
set_with d es kind more h canonical of room = record {
  entries = record {
    entries = record {
      within = omega (arith, most_with d (truth true) es);
      canonical = all_with_entry IsCanonicalEntry d (truth true) es canonical h.entries.entries.canonical;
      ascending = with_entry_ascends d (truth true) es h.entries.entries.ascending;
    };
    units = all_with_entry IsUnit d (truth true) es refl h.entries.units;
  };
  keys = rw (keys_with d (truth true) es) (kind_with kind more d (keys_of es) h.keys of);
}

pub set_without : (d : Data) (es : List (Data × Data)) (kind : ItemKind) → IsSet es kind → IsSet (without_key d es) kind
set_without d es kind h = record {
  entries = record {
    entries = record {
      within = let kept = h.entries.entries.within in omega (arith, most_without d es);
      canonical = all_without_key IsCanonicalEntry d es h.entries.entries.canonical;
      ascending = without_key_ascends d es h.entries.entries.ascending;
    };
    units = all_without_key IsUnit d es h.entries.units;
  };
  keys = rw (keys_without d es) (kind_without kind d (keys_of es) h.keys);
}

-- a set of keys that ascend
pub set_made : (ds : List Data) (kind : ItemKind) → IsAscending ds → AllCanonical ds → length ds < 2 ^ 63 → AreOfKind kind ds → IsSet (entries_with (truth true) ds) kind
set_made ds kind a k room of = record {
  entries = record {
    entries = record {
      within = omega (arith, as_many_entries ds);
      canonical = made_canonical ds k;
      ascending = rw (keys_of_all (truth true) ds) a;
    };
    units = made_units ds;
  };
  keys = rw (keys_of_all (truth true) ds) of;
}
  where
    as_many_entries : (ds : List Data) → length (entries_with (truth true) ds) ≡ length ds
    as_many_entries [] = refl
    as_many_entries (d ∷ ds) = ap suc (as_many_entries ds)

    made_canonical : (ds : List Data) → AllCanonical ds → AllEntriesCanonical (entries_with (truth true) ds)
    made_canonical [] h = tt
    made_canonical (d ∷ ds) h = ((h.0, tt), made_canonical ds h.1)

    made_units : (ds : List Data) → AllByRecursion IsUnit (entries_with (truth true) ds)
    made_units [] = tt
    made_units (d ∷ ds) = (refl, made_units ds)

-- a map in which a key has a value, and without a key
pub map_with : (k v : Data) (es : List (Data × Data)) (key_kind key_more value_kind value_more : ItemKind) → IsMap es key_kind value_kind → IsCanonicalEntry (k, v) → is_of_kind key_more k ≡ true → is_of_kind value_more v ≡ true → length es + 1 < 2 ^ 63 →
    IsMap (with_entry k v es) (common_kind key_kind key_more) (common_kind value_kind value_more)
map_with k v es kk km vk vm h canonical of_key of_value room = record {
  entries = record {
    within = omega (arith, most_with k v es);
    canonical = all_with_entry IsCanonicalEntry k v es canonical h.entries.canonical;
    ascending = with_entry_ascends k v es h.entries.ascending;
  };
  keys = rw (keys_with k v es) (kind_with kk km k (keys_of es) h.keys of_key);
  values = value_kind_with vk vm k v es h.values of_value;
}

pub map_without : (k : Data) (es : List (Data × Data)) (key_kind value_kind : ItemKind) → IsMap es key_kind value_kind → IsMap (without_key k es) key_kind value_kind
map_without k es kk vk h = record {
  entries = record {
    within = let kept = h.entries.within in omega (arith, most_without k es);
    canonical = all_without_key IsCanonicalEntry k es h.entries.canonical;
    ascending = without_key_ascends k es h.entries.ascending;
  };
  keys = rw (keys_without k es) (kind_without kk k (keys_of es) h.keys);
  values = value_kind_without vk k es h.values;
}

-- a member is the key of the entry at its position
pub key_got : (es : List (Data × Data)) (i : ℕ) (k v : Data) → slice_get es i ≡ Some (k, v) → slice_get (keys_of es) i ≡ Some k
key_got [] i k v h = absurd (cc)
key_got (e ∷ es) zero k v h = let same : e ≡ (k, v) = cc in ap (λ (p : Data × Data). Some p.0) same
key_got (e ∷ es) (suc i) k v h = key_got es i k v h

-- and there are as many entries as keys
pub entry_within : (es : List (Data × Data)) (i : ℕ) → i < length (keys_of es) → i < length es
entry_within es i h = omega (arith, many_keys es)
