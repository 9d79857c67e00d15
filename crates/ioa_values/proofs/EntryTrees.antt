-- What an entry between the entries of two trees is for a change, a search and a read at a position.
use Rattle.std.proofs.Common.{◌≡◌, ◌∙◌, ℕ, zero, suc, ◌+◌, ◌-◌, ◌<◌, List, [], ◌∷◌, ◌++◌, Option, Some, None, refl, sym, ap, subst, arith, length, take, drop, get_or}
use Rattle.std.proofs.lemmas.List.{length-drop, take-append-drop, take_all}
use Rattle.std.specs.Prelude.{slice_get}
use Rattle.std.specs.List.{AllByRecursion}
use Rattle.std.specs.declared.cmp.Ordering.TheVariants.{Less, Equal, Greater}
use Rattle.ioa_values.specs.Data.{Data}
use Rattle.ioa_values.specs.DataOrder.{data_cmp, data_cmp_total}
use Rattle.ioa_values.specs.Collections.{by_order, IsAscending, keys_of, value_at, with_entry, without_key}
use Rattle.ioa_values.specs.EntryTrees.{entries_with}
use Rattle.ioa_values.proofs.AllOf.{all_parts}
use Rattle.ioa_values.proofs.Ascending.{cmp_reverse, of_each}
use Rattle.ioa_values.proofs.Equality.{tied_equal}
use Rattle.ioa_values.proofs.Steps.{drop_from}

-- the keys of the entries of two lists
pub keys_append : (es fs : List (Data × Data)) → keys_of (es ++ fs) ≡ keys_of es ++ keys_of fs
keys_append [] fs = refl
keys_append (e ∷ es) fs = ap (λ (ds : List Data). e.0 ∷ ds) (keys_append es fs)

-- the entry at a position
pub got_front : {A : Type 0} (xs ys : List A) (i : ℕ) → i < length xs → slice_get (xs ++ ys) i ≡ slice_get xs i
got_front [] ys i h = absurd (omega arith)
got_front (x ∷ xs) ys zero h = refl
got_front (x ∷ xs) ys (suc i) h = got_front xs ys i (omega arith)

pub got_here : {A : Type 0} (xs ys : List A) (i : ℕ) (x : A) → i ≡ length xs → slice_get (xs ++ x ∷ ys) i ≡ Some x
got_here [] ys zero x h = refl
got_here [] ys (suc i) x h = absurd (omega arith)
got_here (y ∷ xs) ys zero x h = absurd (omega arith)
got_here (y ∷ xs) ys (suc i) x h = got_here xs ys i x (omega arith)

pub got_behind : {A : Type 0} (xs ys : List A) (i k : ℕ) (x : A) → i ≡ length xs + 1 + k → slice_get (xs ++ x ∷ ys) i ≡ slice_get ys k
got_behind [] ys zero k x h = absurd (omega arith)
got_behind [] ys (suc i) k x h = let same : i ≡ k = omega arith in ap (λ (n : ℕ). slice_get ys n) same
got_behind (y ∷ xs) ys zero k x h = absurd (omega arith)
got_behind (y ∷ xs) ys (suc i) k x h = got_behind xs ys i k x (omega arith)

-- keys in front of a key, and behind it, ascend as all do
pub front_ascends : (xs : List Data) (x : Data) (ys : List Data) → IsAscending (xs ++ x ∷ ys) → IsAscending xs
front_ascends [] x ys h = tt
front_ascends (y ∷ xs) x ys h = ((all_parts (λ z. data_cmp y z ≡ Less) xs (x ∷ ys) h.0).0, front_ascends xs x ys h.1)

pub behind_ascends : (xs : List Data) (x : Data) (ys : List Data) → IsAscending (xs ++ x ∷ ys) → IsAscending ys
behind_ascends [] x ys h = h.1
behind_ascends (y ∷ xs) x ys h = behind_ascends xs x ys h.1

-- a key that is one of the keys comes behind those in front of that one
comes_behind_it : (d : Data) (y x : Data) → data_cmp y x ≡ Less → data_cmp d x ≡ Equal → data_cmp d y ≡ Greater
comes_behind_it d y x less e = subst (λ (z : Data). data_cmp z y ≡ Greater) (sym (tied_equal d x e)) (cmp_reverse y x Less less)

-- and so does one that comes behind it
comes_behind : (d y x : Data) → data_cmp y x ≡ Less → data_cmp d x ≡ Greater → data_cmp d y ≡ Greater
comes_behind d y x less e = cmp_reverse y d Less (data_cmp_total.trans y x d less (cmp_reverse d x Greater e))

-- the value at a key: in front of an entry, at it, and behind it
pub value_front : (d : Data) (es fs : List (Data × Data)) (e : Data × Data) → data_cmp d e.0 ≡ Less → value_at d es ≡ value_at d (es ++ e ∷ fs)
value_front d [] fs e less = rw less refl
value_front d (f ∷ es) fs e less = ap (λ (o : Option Data). by_order (data_cmp d f.0) None (Some f.1) o) (value_front d es fs e less)

one_of_keys : (P : Data → Type 0) (es fs : List (Data × Data)) (e : Data × Data) → AllByRecursion P (keys_of (es ++ e ∷ fs)) → P e.0
one_of_keys P [] fs e h = h.0
one_of_keys P (f ∷ es) fs e h = one_of_keys P es fs e h.1

pub value_here : (d : Data) (es fs : List (Data × Data)) (e : Data × Data) → IsAscending (keys_of (es ++ e ∷ fs)) → data_cmp d e.0 ≡ Equal → value_at d (es ++ e ∷ fs) ≡ Some e.1
value_here d [] fs e a h = rw h refl
value_here d (f ∷ es) fs e a h = rw (comes_behind_it d f.0 e.0 (one_of_keys (λ z. data_cmp f.0 z ≡ Less) es fs e a.0) h) (value_here d es fs e a.1 h)

pub value_behind : (d : Data) (es fs : List (Data × Data)) (e : Data × Data) → IsAscending (keys_of (es ++ e ∷ fs)) → data_cmp d e.0 ≡ Greater → value_at d fs ≡ value_at d (es ++ e ∷ fs)
value_behind d [] fs e a h = rw h refl
value_behind d (f ∷ es) fs e a h = rw (comes_behind d f.0 e.0 (one_of_keys (λ z. data_cmp f.0 z ≡ Less) es fs e a.0) h) (value_behind d es fs e a.1 h)

-- an entry more: in front of an entry, at it, and behind it
pub entry_front : (k v : Data) (es fs : List (Data × Data)) (e : Data × Data) → data_cmp k e.0 ≡ Less → with_entry k v (es ++ e ∷ fs) ≡ with_entry k v es ++ e ∷ fs
entry_front k v [] fs e less = rw less refl
entry_front k v (f ∷ es) fs e less =
    ap (λ (l : List (Data × Data)). by_order (data_cmp k f.0) ((k, v) ∷ f ∷ es ++ e ∷ fs) ((k, v) ∷ es ++ e ∷ fs) (f ∷ l)) (entry_front k v es fs e less)
    ∙ sym (of_each (λ (l : List (Data × Data)). l ++ e ∷ fs) (data_cmp k f.0) ((k, v) ∷ f ∷ es) ((k, v) ∷ es) (f ∷ with_entry k v es))

pub entry_here : (k v : Data) (es fs : List (Data × Data)) (e : Data × Data) → IsAscending (keys_of (es ++ e ∷ fs)) → data_cmp k e.0 ≡ Equal → with_entry k v (es ++ e ∷ fs) ≡ es ++ (k, v) ∷ fs
entry_here k v [] fs e a h = rw h refl
entry_here k v (f ∷ es) fs e a h = rw (comes_behind_it k f.0 e.0 (one_of_keys (λ z. data_cmp f.0 z ≡ Less) es fs e a.0) h) (ap (λ (l : List (Data × Data)). f ∷ l) (entry_here k v es fs e a.1 h))

pub entry_behind : (k v : Data) (es fs : List (Data × Data)) (e : Data × Data) → IsAscending (keys_of (es ++ e ∷ fs)) → data_cmp k e.0 ≡ Greater → with_entry k v (es ++ e ∷ fs) ≡ es ++ e ∷ with_entry k v fs
entry_behind k v [] fs e a h = rw h refl
entry_behind k v (f ∷ es) fs e a h = rw (comes_behind k f.0 e.0 (one_of_keys (λ z. data_cmp f.0 z ≡ Less) es fs e a.0) h) (ap (λ (l : List (Data × Data)). f ∷ l) (entry_behind k v es fs e a.1 h))

-- and an entry less
pub key_front : (k : Data) (es fs : List (Data × Data)) (e : Data × Data) → data_cmp k e.0 ≡ Less → without_key k (es ++ e ∷ fs) ≡ without_key k es ++ e ∷ fs
key_front k [] fs e less = rw less refl
key_front k (f ∷ es) fs e less =
    ap (λ (l : List (Data × Data)). by_order (data_cmp k f.0) (f ∷ es ++ e ∷ fs) (es ++ e ∷ fs) (f ∷ l)) (key_front k es fs e less)
    ∙ sym (of_each (λ (l : List (Data × Data)). l ++ e ∷ fs) (data_cmp k f.0) (f ∷ es) es (f ∷ without_key k es))

pub key_here : (k : Data) (es fs : List (Data × Data)) (e : Data × Data) → IsAscending (keys_of (es ++ e ∷ fs)) → data_cmp k e.0 ≡ Equal → without_key k (es ++ e ∷ fs) ≡ es ++ fs
key_here k [] fs e a h = rw h refl
key_here k (f ∷ es) fs e a h = rw (comes_behind_it k f.0 e.0 (one_of_keys (λ z. data_cmp f.0 z ≡ Less) es fs e a.0) h) (ap (λ (l : List (Data × Data)). f ∷ l) (key_here k es fs e a.1 h))

pub key_behind : (k : Data) (es fs : List (Data × Data)) (e : Data × Data) → IsAscending (keys_of (es ++ e ∷ fs)) → data_cmp k e.0 ≡ Greater → without_key k (es ++ e ∷ fs) ≡ es ++ e ∷ without_key k fs
key_behind k [] fs e a h = rw h refl
key_behind k (f ∷ es) fs e a h = rw (comes_behind k f.0 e.0 (one_of_keys (λ z. data_cmp f.0 z ≡ Less) es fs e a.0) h) (ap (λ (l : List (Data × Data)). f ∷ l) (key_behind k es fs e a.1 h))

-- the first one of a list is the one at 0, and the others are behind it
pub first_and_rest : {A : Type 0} (xs : List A) (x : A) → slice_get xs 0 ≡ Some x → xs ≡ x ∷ drop 1 xs
first_and_rest [] x h = absurd (cc)
first_and_rest {A} (y ∷ xs) x h = let same : y ≡ x = cc in ap (λ (z : A). z ∷ xs) same

-- what is left of two lists, of which the first has some
pub rest_of_all : {A : Type 0} (xs ys : List A) → 0 < length xs → drop 1 (xs ++ ys) ≡ drop 1 xs ++ ys
rest_of_all [] ys h = absurd (omega arith)
rest_of_all (x ∷ xs) ys h = refl

-- as many keys as entries
pub many_keys : (es : List (Data × Data)) → length (keys_of es) ≡ length es
many_keys [] = refl
many_keys (e ∷ es) = ap suc (many_keys es)

-- a list from its half: what is in front of the item at a position, the item, and what is behind it
pub split_at : {A : Type 0} (xs : List A) (i : ℕ) (x : A) → slice_get xs i ≡ Some x → xs ≡ take i xs ++ x ∷ drop (i + 1) xs
split_at {A} xs i x h = rw (← drop_from xs i x h) (sym (take-append-drop i xs))

-- keys with a value each
pub entries_with_append : (v : Data) (ks ls : List Data) → entries_with v (ks ++ ls) ≡ entries_with v ks ++ entries_with v ls
entries_with_append v [] ls = refl
entries_with_append v (k ∷ ks) ls = ap (λ (es : List (Data × Data)). (k, v) ∷ es) (entries_with_append v ks ls)

pub keys_of_all : (v : Data) (ks : List Data) → keys_of (entries_with v ks) ≡ ks
keys_of_all v [] = refl
keys_of_all v (k ∷ ks) = ap (λ (ds : List Data). k ∷ ds) (keys_of_all v ks)

-- the item at a position that has one
pub there : (ks : List Data) (i : ℕ) (k : Data) → i < length ks → k ≡ get_or ks i k → slice_get ks i ≡ Some k
there [] i k h at = absurd (omega arith)
there (x ∷ ks) zero k h at = ap (λ (d : Data). Some d) (sym at)
there (x ∷ ks) (suc i) k h at = there ks i k (omega arith) at

-- all that is behind a position
pub whole_rest : (i : ℕ) (ks : List Data) → take (length ks - i) (drop i ks) ≡ drop i ks
whole_rest i ks = take_all (length ks - i) (drop i ks) (omega (arith, length-drop i ks))

-- keys from their half
pub keys_joined : (v : Data) (ks : List Data) (i : ℕ) (k : Data) → slice_get ks i ≡ Some k → entries_with v (take i ks) ++ (k, v) ∷ entries_with v (drop (i + 1) ks) ≡ entries_with v ks
keys_joined v ks i k h = sym (entries_with_append v (take i ks) (k ∷ drop (i + 1) ks)) ∙ ap (entries_with v) (sym (split_at ks i k h))

-- what a search in a tree cites, and what a change cites
pub ruleset getting = (keys_append, front_ascends, behind_ascends, value_front, value_here, value_behind)

pub ruleset entering = (keys_append, front_ascends, behind_ascends, entry_front, entry_here, entry_behind)

pub ruleset leaving = (keys_append, front_ascends, behind_ascends, key_front, key_here, key_behind)
