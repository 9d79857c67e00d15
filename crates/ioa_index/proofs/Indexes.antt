-- Where the components of a list stand, and the slots of those that a node has to do with.
use Rattle.std.proofs.Common.{◌≡◌, ℕ, ℤ, suc, ◌+◌, ◌<◌, ◌≤◌, ◌⊎◌, inl, inr, Bool, true, false, not, ◌||◌, if◌then◌else◌, cond, arith}
use Rattle.std.proofs.Common.{List, [], ◌∷◌, ◌++◌, Some, None, refl, ap, sym, subst, ◌∙◌, append_assoc, length, map, drop, get_or, slice_get}
use Rattle.std.specs.List.{AllByRecursion, position_from}
use Rattle.std.specs.Option.{option_map}
use Rattle.std.specs.Ordering.{int_eq}
use Rattle.std.proofs.lemmas.List.{drop_more, length-map}
use Rattle.std.proofs.Math.Dec.{ltb}
use Rattle.std.proofs.lemmas.Bool.{cases_lt, lt-ltb, ltb-false}
use Rattle.std.proofs.lemmas.Option.{get_or_from_slice_get, slice_get-map, slice_get_read, slice_get_within}
use Rattle.std.proofs.lemmas.Bool.Decides.{Decides-int_eq}
use Rattle.std.proofs.lemmas.Iterator.Adapters.{position_from-zero}
use Rattle.std.proofs.lemmas.List.Sums.{fails_before_first, prefix_len-le-length}
use Rattle.ioa_actions.specs.declared.component.Component.{Component}
use Rattle.ioa_actions.specs.ComponentOrder.{same_component}
use Rattle.ioa_actions.proofs.SameComponents.{same_component-itself}
use Rattle.ioa_index.specs.Own.{concerns, own_slots}
use Rattle.ioa_index.specs.Indexes.{AreEntries, IsFirst, IsOwn, entry_of, first_of, has_entry, has_node, is_concerned}
use Rattle.ioa_index.specs.declared.index.NodeSlots.{NodeSlots}

-- the slots of the components that a node has to do with are within the list
own_slots-within : (n : ℤ) (first many : ℕ) (ks : List Component) → first + length ks ≤ many
    → AllByRecursion (λ slot. slot < many) (own_slots n first ks)
own_slots-within n first many [] h = tt
own_slots-within n first many (k ∷ ks) h = by_test (concerns n k) (own_slots-within n (suc first) many ks (omega arith))
  where
    by_test : (t : Bool) → AllByRecursion (λ slot. slot < many) (own_slots n (suc first) ks)
        → AllByRecursion (λ slot. slot < many)
        (if t then first ∷ own_slots n (suc first) ks else own_slots n (suc first) ks)
    by_test true all = (omega arith, all)
    by_test false all = all

-- so are those that are the same list
pub within_own : (n : ℤ) (ks : List Component) (slots : List ℕ) → slots ≡ own_slots n 0 ks
    → AllByRecursion (λ slot. slot < length ks) slots
within_own n ks slots e = rw e (own_slots-within n 0 (length ks) ks (omega arith))

-- a node that has to do with none of the components has no slots
pub none_own : (n : ℤ) (first : ℕ) (ks : List Component) → is_concerned n ks ≡ false → own_slots n first ks ≡ []
none_own n first [] h = refl
none_own n first (k ∷ ks) h = by_test (concerns n k) h (λ g. none_own n (suc first) ks g)
  where
    by_test : (t : Bool) → (t || is_concerned n ks) ≡ false
        → (is_concerned n ks ≡ false → own_slots n (suc first) ks ≡ [])
        → (if t then first ∷ own_slots n (suc first) ks else own_slots n (suc first) ks) ≡ []
    by_test true g further = absurd (cc)
    by_test false g further = further g

-- a component that is found stands first where it is found
pub first_found : (ks : List Component) (k : Component) (m : ℕ)
    → Some m ≡ position_from (λ c. same_component k c) 0 ks → m ≡ first_of ks k
first_found ks k m h =
    by_test (ltb (first_of ks k) (length ks)) (h ∙ sym (position_from-zero (λ c. same_component k c) ks))
  where
    by_test : (t : Bool) → Some m ≡ cond t (Some (first_of ks k)) None → m ≡ first_of ks k
    by_test true e = cc
    by_test false e = absurd (cc)

-- one that is not found stands nowhere
pub none_found : (ks : List Component) (k : Component)
    → None ≡ position_from (λ c. same_component k c) 0 ks → length ks ≡ first_of ks k
none_found ks k h =
    by_test (ltb (first_of ks k) (length ks)) refl (h ∙ sym (position_from-zero (λ c. same_component k c) ks))
  where
    by_test : (t : Bool) → ltb (first_of ks k) (length ks) ≡ t → None ≡ cond t (Some (first_of ks k)) None
        → length ks ≡ first_of ks k
    by_test true s e = absurd (cc)
    by_test false s e =
        let least : length ks ≤ first_of ks k = ltb-false (first_of ks k) (length ks) s in
        let most : first_of ks k ≤ length ks = prefix_len-le-length (λ c. not (same_component k c)) ks in
        omega (arith, least, most)

-- one that stands somewhere stands first where it is found
pub first_near : (ks : List Component) (k : Component) (near : ℕ) → slice_get ks near ≡ Some k
    → Some (first_of ks k) ≡ position_from (λ c. same_component k c) 0 ks
first_near ks k near h =
    let inside : first_of ks k < length ks = by_order (cases_lt near (first_of ks k)) in
    rw (lt-ltb (first_of ks k) (length ks) inside) at (position_from-zero (λ c. same_component k c) ks)
  where
    by_order : (near < first_of ks k) ⊎ (first_of ks k ≤ near) → first_of ks k < length ks
    by_order (inl before) =
        let passes : same_component k (get_or ks near k) ≡ true = rw (get_or_from_slice_get ks near k k h) (same_component-itself k) in
        let fails : same_component k (get_or ks near k) ≡ false = fails_before_first (λ c. same_component k c) ks near k before in
        absurd (cc)
    by_order (inr after) = let within : near < length ks = slice_get_within ks near k h in omega (arith, after, within)

-- so does what is listed of each component
pub first_listed : (ks : List Component) (firsts : List ℕ) (k : Component) (near x : ℕ)
    → firsts ≡ map (λ c. first_of ks c) ks → slice_get ks near ≡ Some k → x ≡ get_or firsts near x
    → Some x ≡ position_from (λ c. same_component k c) 0 ks
first_listed ks firsts k near x are h at =
    let many : length firsts ≡ length ks = ap length are ∙ length-map ks (λ c. first_of ks c) in
    let within : near < length firsts = let inside : near < length ks = slice_get_within ks near k h in omega (arith, many, inside) in
    let listed : slice_get firsts near ≡ Some (first_of ks k) = rw are (slice_get-map (λ c. first_of ks c) ks near ∙ ap (λ o. option_map (λ c. first_of ks c) o) h) in
    let read : slice_get firsts near ≡ Some x = slice_get_read firsts (length firsts) near x refl within at in
    sym read ∙ listed ∙ first_near ks k near h

-- a component that is listed at its own slot stands in none before it
pub listed_first : (ks : List Component) (firsts : List ℕ) (slot : ℕ)
    → firsts ≡ map (λ c. first_of ks c) ks → slice_get firsts slot ≡ Some slot → IsFirst ks slot
listed_first ks firsts slot are at = λ k h.
    let listed : slice_get firsts slot ≡ Some (first_of ks k) =
    rw are (slice_get-map (λ c. first_of ks c) ks slot ∙ ap (λ o. option_map (λ c. first_of ks c) o) h) in
    sym (first_near ks k slot h) ∙ sym listed ∙ at

-- the entry of a node says whether the node is there
pub there_by : (n : ℤ) (ks : List Component) (e : NodeSlots) → IsOwn ks e → e.node ≡ n → e.is_there ≡ true
    → has_node n ks ≡ true
there_by n ks e own node is = subst (λ (m : ℤ). has_node m ks ≡ true) node (sym own.there ∙ is)

-- one more item behind those that are listed
pub next_listed : {A B : Type 0} (f : A → B) (out whole : List B) (xs : List A) (i : ℕ) (x : A) (y : B)
    → i < length xs → x ≡ get_or xs i x → y ≡ f x → out ++ map f (drop i xs) ≡ whole
    → (out ++ y ∷ []) ++ map f (drop (i + 1) xs) ≡ whole
next_listed f out whole xs i x y within at same h =
    append_assoc out (y ∷ []) (map f (drop (i + 1) xs))
    ∙ rw same (subst (λ z. out ++ f z ∷ map f (drop (i + 1) xs) ≡ whole) (sym at) (rw (drop_more xs i x within) at h))

-- the entry of a node that has one is as it should be, and a node without one has no slots
pub found_own : (n : ℤ) (ks : List Component) (entries : List NodeSlots) (e : NodeSlots)
    → AllByRecursion (IsOwn ks) entries → Some e ≡ entry_of n entries → e.slots.items ≡ own_slots n 0 ks
found_own n ks [] e own h = absurd (cc)
found_own n ks (x ∷ entries) e own h = by_test (int_eq x.node n) refl h (λ g. found_own n ks entries e own.1 g)
  where
    by_test : (t : Bool) → int_eq x.node n ≡ t → Some e ≡ cond t (Some x) (entry_of n entries)
        → (Some e ≡ entry_of n entries → e.slots.items ≡ own_slots n 0 ks) → e.slots.items ≡ own_slots n 0 ks
    by_test true same g further =
        let one : e ≡ x = cc in
        let node : x.node ≡ n = (Decides-int_eq x.node n).0 same in
        rw (one, ← node) own.0.slots
    by_test false same g further = further g

pub not_found_own : (n : ℤ) (ks : List Component) (entries : List NodeSlots) → AreEntries ks ks entries
    → None ≡ entry_of n entries → [] ≡ own_slots n 0 ks
not_found_own n ks entries are h = sym (none_own n 0 ks (sym (are.complete n) ∙ none_has entries h))
  where
    none_has : (es : List NodeSlots) → None ≡ entry_of n es → has_entry n es ≡ false
    none_has [] g = refl
    none_has (x ∷ es) g = by_test (int_eq x.node n) g (none_has es)
      where
        by_test : (t : Bool) → None ≡ cond t (Some x) (entry_of n es)
            → (None ≡ entry_of n es → has_entry n es ≡ false) → (t || has_entry n es) ≡ false
        by_test true g further = absurd (cc)
        by_test false g further = further g
