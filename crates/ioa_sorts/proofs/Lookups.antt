-- Things that are found by their names.
use Rattle.std.proofs.Common.{◌≡◌, ◌<◌, ◌+◌, ◌&&◌, ℕ, zero, suc, nat_lt, Bool, true, false, List, [], ◌∷◌, Option, Some, None, refl, sym, ap, subst, ◌∙◌, map, length, find, slice_get, arith, if◌then◌else◌}
use Rattle.std.specs.List.{AllByRecursion, Contains, IsDistinct, slice_index_or}
use Rattle.std.specs.Option.{option_and_then, option_map}
use Rattle.std.proofs.lemmas.Bool.{ltb-true, lt-ltb}
use Rattle.std.proofs.lemmas.List.{length-map}
use Rattle.std.proofs.lemmas.Slice.Eq.{bytes_eq-Decides}
use Rattle.ioa_terms.specs.declared.name.Name.TheVariants.{Word}
use Rattle.ioa_terms.specs.Bindings.{same_word, slot_in}
use Rattle.ioa_terms.proofs.Slots.{slot_within}
use Rattle.ioa_names.specs.Indexes.{AreIndexed}

-- what holds of each element holds of those that a list contains
at_position : {A : Type 0} (P : A → Type 0) (xs : List A) (k : ℕ) (d : A) → AllByRecursion P xs → k < length xs → P (slice_index_or xs k d)
at_position P [] k d h less = absurd (omega (arith, less))
at_position P (x ∷ xs) zero d h less = h.0
at_position P (x ∷ xs) (suc k) d h less = at_position P xs k d h.1 (omega (arith, less))

pub contained_has : {A : Type 0} (P : A → Type 0) (xs : List A) (x : A) → AllByRecursion P xs → Contains xs x → P x
contained_has P xs x h c = subst P c.2 (at_position P xs c.0 x h c.1)

-- what stands at a position is contained
pub contained_at : {A : Type 0} (xs : List A) (k : ℕ) (x : A) → slice_get xs k ≡ Some x → Contains xs x
contained_at [] k x h = absurd (cc)
contained_at (y ∷ ys) zero x h = let this : y ≡ x = cc in (zero, omega arith, this)
contained_at (y ∷ ys) (suc k) x h = let m = contained_at ys k x h in (suc m.0, omega (arith, m.1), m.2)

-- what holds of each element holds of the first that passes a test
pub found_has : {A : Type 0} (P : A → Type 0) (test : A → Bool) (xs : List A) (x : A) → AllByRecursion P xs → find test xs ≡ Some x → P x
found_has P test [] x all h = absurd (cc)
found_has P test (y ∷ ys) x all h = by_test (test y) h (found_has P test ys x all.1)
  where
    by_test : (t : Bool) → (if t then Some y else find test ys) ≡ Some x → (find test ys ≡ Some x → P x) → P x
    by_test true h further = let this : y ≡ x = cc in subst P this all.0
    by_test false h further = further h

-- the first that passes a test is contained, and passes it
pub found_contained : {A : Type 0} (test : A → Bool) (xs : List A) (x : A) → find test xs ≡ Some x → Contains xs x × (test x ≡ true)
found_contained test [] x h = absurd (cc)
found_contained {A} test (y ∷ ys) x h = by_test (test y) refl h (found_contained test ys x)
  where
    by_test : (b : Bool) → test y ≡ b → (if b then Some y else find test ys) ≡ Some x → (find test ys ≡ Some x → Contains ys x × (test x ≡ true)) → Contains (y ∷ ys) x × (test x ≡ true)
    by_test true e h more =
        let this : y ≡ x = cc in
        ((zero, omega arith, this), subst (λ (z : A). test z ≡ true) this e)
    by_test false e h more =
        let m = more h in
        ((suc m.0.0, omega (arith, m.0.1), m.0.2), m.1)

-- of things whose keys differ each is found by its key
pub keys_all : {A K : Type 0} (P : K → Type 0) (key : A → K) (xs : List A) → AllByRecursion P (map key xs) → AllByRecursion (λ x. P (key x)) xs
keys_all P key [] h = tt
keys_all P key (x ∷ xs) h = (h.0, keys_all P key xs h.1)

found_by_key : {A K : Type 0} (same : K → K → Bool) → ((k : K) → same k k ≡ true) → (key : A → K) (xs : List A) → IsDistinct same (map key xs) → (x : A) (n : ℕ) → n < length xs → slice_index_or xs n x ≡ x → find (λ y. same (key y) (key x)) xs ≡ Some x
unfolding IsDistinct
found_by_key same itself key [] d x n less e = absurd (omega (arith, less))
found_by_key {A} same itself key (y ∷ ys) d x zero less e =
    let own : same (key y) (key x) ≡ true = subst (λ (z : A). same (key z) (key x) ≡ true) (sym e) (itself (key x)) in
    rw own (ap Some e)
found_by_key {A} same itself key (y ∷ ys) d x (suc n) less e =
    let apart : same (key y) (key x) ≡ false = contained_has (λ (z : A). same (key y) (key z) ≡ false) ys x (keys_all (λ k. same (key y) k ≡ false) key ys d.0) (n, omega (arith, less), e) in
    rw apart (found_by_key same itself key ys d.1 x n (omega (arith, less)) e)

pub contained_found : {A K : Type 0} (same : K → K → Bool) → ((k : K) → same k k ≡ true) → (key : A → K) (xs : List A) → IsDistinct same (map key xs) → (x : A) → Contains xs x → find (λ y. same (key y) (key x)) xs ≡ Some x
contained_found same itself key xs d x c = found_by_key same itself key xs d x c.0 c.1 c.2

-- two words are the same whichever comes first
pub same_turned : (x w : List ℕ) → same_word x w ≡ same_word w x
same_turned x w = by_tests (same_word x w) (same_word w x) refl refl
  where
    by_tests : (a b : Bool) → same_word x w ≡ a → same_word w x ≡ b → a ≡ b
    by_tests true true e f = refl
    by_tests false false e f = refl
    by_tests true false e f =
        let other : same_word w x ≡ true = (bytes_eq-Decides w x).1 (sym ((bytes_eq-Decides x w).0 e)) in
        absurd (cc)
    by_tests false true e f =
        let other : same_word x w ≡ true = (bytes_eq-Decides x w).1 (sym ((bytes_eq-Decides w x).0 f)) in
        absurd (cc)

-- a thing, if there is one and it passes a test
abbrev pub passing : {A : Type 0} → (A → Bool) → Option A → Option A
passing test None = None
passing test (Some x) = if test x then Some x else None

-- the thing of a name that passes a test besides
abbrev pub found_named : {A : Type 0} → (A → List ℕ) → (A → Bool) → List ℕ → List A → Option A
found_named key test w xs = find (λ x. same_word (key x) w && test x) xs

module _ {A : Type 0} (key : A → List ℕ) (test : A → Bool) (w : List ℕ) where
  none_named : (xs : List A) → AllByRecursion (λ x. same_word (key x) w ≡ false) xs → None ≡ found_named key test w xs
  none_named [] h = refl
  none_named (x ∷ xs) h = rw h.0 (none_named xs h.1)

  others_apart : (x : A) (xs : List A) → AllByRecursion (λ k. same_word (key x) k ≡ false) (map key xs) → key x ≡ w → AllByRecursion (λ y. same_word (key y) w ≡ false) xs
  others_apart x [] h e = tt
  others_apart x (y ∷ ys) h e =
      (same_turned (key y) w ∙ subst (λ (v : List ℕ). same_word v (key y) ≡ false) e h.0, others_apart x ys h.1 e)

  later : (xs : List A) (x : A) (o : Option ℕ) → option_and_then (λ k. passing test (slice_get xs k)) o ≡ option_and_then (λ k. passing test (slice_get (x ∷ xs) k)) (option_map (λ k. k + 1) o)
  later xs x None = refl
  later xs x (Some k) = let e : k + 1 ≡ suc k = omega arith in rw e refl

  -- names that differ: the slot of a name tells the thing of the name
  pub named_at_slot : (xs : List A) → IsDistinct same_word (map key xs) → found_named key test w xs ≡ option_and_then (λ k. passing test (slice_get xs k)) (slot_in (Word w) (map Word (map key xs)))
  unfolding IsDistinct
  named_at_slot [] d = refl
  named_at_slot (x ∷ xs) d =
      rw (same_turned w (key x)) (by_name (named_at_slot xs d.1 ∙ later xs x (slot_in (Word w) (map Word (map key xs)))) (same_word (key x) w) refl)
    where
      by_test : key x ≡ w → (b : Bool) → (if b then Some x else found_named key test w xs) ≡ (if b then Some x else None)
      by_test e true = refl
      by_test e false = sym (none_named xs (others_apart x xs d.0 e))

      further : Option A
      further = option_and_then (λ k. passing test (slice_get (x ∷ xs) k)) (option_map (λ k. k + 1) (slot_in (Word w) (map Word (map key xs))))

      by_name : found_named key test w xs ≡ further → (b : Bool) → same_word (key x) w ≡ b → (if b && test x then Some x else found_named key test w xs) ≡ option_and_then (λ k. passing test (slice_get (x ∷ xs) k)) (if b then Some 0 else option_map (λ k. k + 1) (slot_in (Word w) (map Word (map key xs))))
      by_name rest true e = by_test ((bytes_eq-Decides (key x) w).0 e) (test x)
      by_name rest false e = rest

  -- the same by an index of the names, by the outcome of each look-up
  pub none_by_index : (index : List (List ℕ)) (xs : List A) → AreIndexed index (map key xs) → None ≡ slot_in (Word w) (map Word index) → None ≡ found_named key test w xs
  none_by_index index xs a h =
      let slot : None ≡ slot_in (Word w) (map Word (map key xs)) = subst (λ (ns : List (List ℕ)). None ≡ slot_in (Word w) (map Word ns)) a.same h in
      rw (named_at_slot xs a.differ, ← slot) refl

  pub by_index : (index : List (List ℕ)) (xs : List A) → AreIndexed index (map key xs) → (k : ℕ) (x : A) → Some k ≡ slot_in (Word w) (map Word index) → Some x ≡ slice_get xs k → (b : Bool) → b ≡ test x → (if b then Some x else None) ≡ found_named key test w xs
  by_index index xs a k x h g b t =
      let slot : Some k ≡ slot_in (Word w) (map Word (map key xs)) = subst (λ (ns : List (List ℕ)). Some k ≡ slot_in (Word w) (map Word ns)) a.same h in
      rw (named_at_slot xs a.differ, ← slot, ← g, t) refl

  pub never_beyond : (index : List (List ℕ)) (xs : List A) → AreIndexed index (map key xs) → (k many : ℕ) → Some k ≡ slot_in (Word w) (map Word index) → many ≡ length xs → false ≡ nat_lt k many → ⊥
  never_beyond index xs a k many h m beyond =
      let slot : Some k ≡ slot_in (Word w) (map Word (map key xs)) = subst (λ (ns : List (List ℕ)). Some k ≡ slot_in (Word w) (map Word ns)) a.same h in
      let within = slot_within (map key xs) (Word w) k (sym slot) in
      let as_many = length-map xs key in
      let test : nat_lt k many ≡ true = lt-ltb k many (omega (arith, within, as_many, m)) in
      absurd (cc)

  both_true : (a b : Bool) → a && b ≡ true → (a ≡ true) × (b ≡ true)
  both_true true b h = (refl, h)
  both_true false b h = absurd (cc)

  -- what is found has the name and passes the test, and what has and passes is found
  pub found_is : (xs : List A) (x : A) → found_named key test w xs ≡ Some x → Contains xs x × (key x ≡ w) × (test x ≡ true)
  found_is xs x h =
      let found = found_contained (λ y. same_word (key y) w && test y) xs x h in
      let both = both_true (same_word (key x) w) (test x) found.1 in
      (found.0, (bytes_eq-Decides (key x) w).0 both.0, both.1)

  present_at : (xs : List A) → IsDistinct same_word (map key xs) → (x : A) (n : ℕ) → n < length xs → slice_index_or xs n x ≡ x → key x ≡ w → test x ≡ true → Some x ≡ found_named key test w xs
  unfolding IsDistinct
  present_at [] d x n less e k t = absurd (omega (arith, less))
  present_at (y ∷ ys) d x zero less e k t =
      let named : same_word (key y) w ≡ true = (bytes_eq-Decides (key y) w).1 (ap key e ∙ k) in
      let passes : test y ≡ true = subst (λ (z : A). test z ≡ true) (sym e) t in
      rw (named, passes) (ap Some (sym e))
  present_at (y ∷ ys) d x (suc n) less e k t =
      let apart : same_word (key y) (key x) ≡ false = contained_has (λ (z : A). same_word (key y) (key z) ≡ false) ys x (keys_all (λ v. same_word (key y) v ≡ false) key ys d.0) (n, omega (arith, less), e) in
      let other : same_word (key y) w ≡ false = subst (λ (v : List ℕ). same_word (key y) v ≡ false) k apart in
      rw other (present_at ys d.1 x n (omega (arith, less)) e k t)

  pub present_found : (xs : List A) → IsDistinct same_word (map key xs) → (x : A) → Contains xs x → key x ≡ w → test x ≡ true → Some x ≡ found_named key test w xs
  present_found xs d x c k t = present_at xs d x c.0 c.1 c.2 k t

-- the item at a position
pub item_of : {A D : Type 0} (view : D → A) (items : List D) (k : ℕ) (d e : D) → true ≡ nat_lt k (length items) → e ≡ slice_index_or items k d → Some (view e) ≡ slice_get (map view items) k
item_of view items k d e within is = ap (λ x. Some (view x)) is ∙ at items k (ltb-true k (length items) (sym within))
  where
    at : (xs : List _) (k : ℕ) → k < length xs → Some (view (slice_index_or xs k d)) ≡ slice_get (map view xs) k
    at [] k less = absurd (omega (arith, less))
    at (x ∷ xs) zero less = refl
    at (x ∷ xs) (suc k) less = at xs k (omega (arith, less))

pub item_same : {A : Type 0} (items : List A) (k : ℕ) (d e : A) → true ≡ nat_lt k (length items) → e ≡ slice_index_or items k d → Some e ≡ slice_get items k
item_same items k d e within is = ap (λ x. Some x) is ∙ at items k (ltb-true k (length items) (sym within))
  where
    at : (xs : List _) (k : ℕ) → k < length xs → Some (slice_index_or xs k d) ≡ slice_get xs k
    at [] k less = absurd (omega (arith, less))
    at (x ∷ xs) zero less = refl
    at (x ∷ xs) (suc k) less = at xs k (omega (arith, less))
