-- Names and the slots of their values.
use Rattle.std.proofs.Common.{◌≡◌, ℕ, zero, suc, ◌+◌, ◌<◌, ◌≤◌, min, Bool, true, false, List, [], ◌∷◌, ◌++◌, Option, Some, None, refl, sym, ap, subst, ◌∙◌, length, map, take, drop, set, arith, if◌then◌else◌, inl, inr, ◌⊎◌, get_or, append-nil}
use Rattle.std.specs.List.{zip, slice_get}
use Rattle.std.specs.Prelude.{nat_lt, IfSome}
use Rattle.std.proofs.lemmas.Bool.Decides.{nat_tests}
use Rattle.std.proofs.lemmas.List.{get_or_append_left, get_or-append-add, length-append, map-append, take-append-drop, take_all}
use Rattle.std.proofs.lemmas.Slice.Zip.{firsts-zip}
use Rattle.std.specs.Option.{option_map}
use Rattle.ioa_terms.specs.declared.callee.Callee.{Callee}
use Rattle.ioa_terms.specs.PlainTerm.{PlainTarget, variable, at_key, at_field}
use Rattle.ioa_terms.specs.Resolved.{IsResolvedTarget}
use Rattle.ioa_operators.specs.declared.shape.Shape.{Shape}
use Rattle.ioa_values.specs.Data.{Data, constant}
use Rattle.ioa_terms.specs.declared.name.Name.{Name}
use Rattle.ioa_terms.specs.declared.name.Name.TheVariants.{Word}
use Rattle.ioa_terms.specs.Bindings.{Bindings, lookup, put, slot_in, names_of, same_name, constants_from, environment}
use Rattle.ioa_terms.specs.declared.environment.Slot.{Slot}
use Rattle.ioa_terms.specs.Slots.{index_within, slot_value}
use Rattle.ioa_operators.specs.RangeCheck.{checked_result}
use Rattle.ioa_terms.specs.declared.environment.View.{View}
use Rattle.ioa_terms.specs.Views.{IsNamed, all_names, all_values, environment_of, names_in_view}

-- what is at the slot of a variable
pub environment_variable : (names : List Name) (vs : List Data) (cs : List (List ℕ)) (i : ℕ) (d : Data) → i < length names → i < length vs → option_map (λ (b : Name × Data). b.1) (slice_get (environment names vs cs) i) ≡ Some (get_or vs i d)
environment_variable [] vs cs i d h g = absurd (omega arith)
environment_variable (n ∷ names) [] cs i d h g = absurd (omega arith)
environment_variable (n ∷ names) (v ∷ vs) cs zero d h g = refl
environment_variable (n ∷ names) (v ∷ vs) cs (suc i) d h g = environment_variable names vs cs i d (omega arith) (omega arith)

-- what is at a slot among the values of one of several owners: of the first, the second, the third, or one more behind
pub environment_first : (names : List Name) (vs more : List Data) (cs : List (List ℕ)) (i : ℕ) (d : Data) → i < length names → i < length vs → option_map (λ (b : Name × Data). b.1) (slice_get (environment names (vs ++ more) cs) i) ≡ Some (get_or vs i d)
environment_first names vs more cs i d h g =
    let many = length-append vs more in
    environment_variable names (vs ++ more) cs i d h (omega arith) ∙ ap (λ v. Some v) (get_or_append_left vs more d i g)

-- an index behind the first of two lists
behind_first : (vs more : List Data) (i j : ℕ) (d : Data) → i ≡ length vs + j → get_or (vs ++ more) i d ≡ get_or more j d
behind_first vs more i j d at = ap (λ k. get_or (vs ++ more) k d) at ∙ get_or-append-add vs more j d

pub environment_middle : (names : List Name) (vs fs more : List Data) (cs : List (List ℕ)) (i j : ℕ) (d : Data) → i ≡ length vs + j → i < length names → j < length fs → option_map (λ (b : Name × Data). b.1) (slice_get (environment names (vs ++ (fs ++ more)) cs) i) ≡ Some (get_or fs j d)
environment_middle names vs fs more cs i j d at h g =
    let many = length-append vs (fs ++ more) in
    let behind = length-append fs more in
    environment_variable names (vs ++ (fs ++ more)) cs i d h (omega arith) ∙ ap (λ v. Some v) (behind_first vs (fs ++ more) i j d at ∙ get_or_append_left fs more d j g)

pub environment_last : (names : List Name) (vs fs gs more : List Data) (cs : List (List ℕ)) (i j : ℕ) (d : Data) → i ≡ length vs + (length fs + j) → i < length names → j < length gs → option_map (λ (b : Name × Data). b.1) (slice_get (environment names (vs ++ (fs ++ (gs ++ more))) cs) i) ≡ Some (get_or gs j d)
environment_last names vs fs gs more cs i j d at h g =
    let many = length-append vs (fs ++ (gs ++ more)) in
    let behind = length-append fs (gs ++ more) in
    let beyond = length-append gs more in
    environment_variable names (vs ++ (fs ++ (gs ++ more))) cs i d h (omega arith)
    ∙ ap (λ v. Some v) (behind_first vs (fs ++ (gs ++ more)) i (length fs + j) d at ∙ (behind_first fs (gs ++ more) (length fs + j) j d refl ∙ get_or_append_left gs more d j g))

pub environment_beyond : (names : List Name) (vs is fs gs : List Data) (cs : List (List ℕ)) (i j : ℕ) (d : Data) → i ≡ length vs + (length is + (length fs + j)) → i < length names → j < length gs → option_map (λ (b : Name × Data). b.1) (slice_get (environment names (vs ++ (is ++ (fs ++ gs))) cs) i) ≡ Some (get_or gs j d)
environment_beyond names vs is fs gs cs i j d at h g =
    let many = length-append vs (is ++ (fs ++ gs)) in
    let behind = length-append is (fs ++ gs) in
    let beyond = length-append fs gs in
    environment_variable names (vs ++ (is ++ (fs ++ gs))) cs i d h (omega arith)
    ∙ ap (λ v. Some v) (behind_first vs (is ++ (fs ++ gs)) i (length is + (length fs + j)) d at ∙ (behind_first is (fs ++ gs) (length is + (length fs + j)) (length fs + j) d refl ∙ behind_first fs gs (length fs + j) j d refl))

-- behind the variables are the constants
behind : (names : List Name) (vs : List Data) (cs : List (List ℕ)) (i j : ℕ) → i ≡ min (length names) (length vs) + j → slice_get (environment names vs cs) i ≡ slice_get (constants_from 0 cs) j
behind [] vs cs i j h = ap (slice_get (constants_from 0 cs)) (omega arith)
behind (n ∷ names) [] cs i j h = ap (slice_get (constants_from 0 cs)) (omega arith)
behind (n ∷ names) (v ∷ vs) cs zero j h = absurd (omega arith)
behind (n ∷ names) (v ∷ vs) cs (suc i) j h = behind names vs cs i j (omega arith)

constant_at : (k : ℕ) (cs : List (List ℕ)) (j : ℕ) → j < length cs → option_map (λ (b : Name × Data). b.1) (slice_get (constants_from k cs) j) ≡ Some (constant (k + j))
constant_at k [] j h = absurd (omega arith)
constant_at k (c ∷ cs) zero h = ap (λ n. Some (constant n)) (omega arith)
constant_at k (c ∷ cs) (suc j) h = constant_at (k + 1) cs j (omega arith) ∙ ap (λ n. Some (constant n)) (omega arith)

no_constant : (k : ℕ) (cs : List (List ℕ)) (j : ℕ) → length cs ≤ j → None ≡ option_map (λ (b : Name × Data). b.1) (slice_get (constants_from k cs) j)
no_constant k [] j h = refl
no_constant k (c ∷ cs) zero h = absurd (omega arith)
no_constant k (c ∷ cs) (suc j) h = no_constant (k + 1) cs j (omega arith)

-- what is at a slot behind all values: a constant, or nothing
pub environment_constant : (names : List Name) (vs : List Data) (cs : List (List ℕ)) (i j : ℕ) → i ≡ min (length names) (length vs) + j → option_map (λ (b : Name × Data). b.1) (slice_get (environment names vs cs) i) ≡ option_map constant (index_within j (length cs))
environment_constant names vs cs i j at = rw (behind names vs cs i j at) (by_test (nat_lt j (length cs)) refl)
  where
    by_test : (t : Bool) → nat_lt j (length cs) ≡ t → option_map (λ (b : Name × Data). b.1) (slice_get (constants_from 0 cs) j) ≡ option_map constant (if t then Some j else None)
    by_test true h = constant_at 0 cs j (grind (arith, nat_tests)) ∙ ap (λ n. Some (constant n)) (omega arith)
    by_test false h = sym (no_constant 0 cs j (grind (arith, nat_tests)))

mapped : (o : Option ℕ) (p : ℕ) → option_map (λ k. k + 1) o ≡ Some p → (k : ℕ) × (o ≡ Some k) × (p ≡ suc k)
mapped None p h = absurd (cc)
mapped (Some k) p h = let e : k + 1 ≡ p = cc in (k, refl, omega arith)

slot_first : (t : Bool) (names : List Name) (x : Name) (p : ℕ) → (if t then Some 0 else option_map (λ k. k + 1) (slot_in x names)) ≡ Some p → ((t ≡ true) × (p ≡ zero)) ⊎ ((t ≡ false) × (k : ℕ) × (slot_in x names ≡ Some k) × (p ≡ suc k))
slot_first true names x p h = inl (refl, cc)
slot_first false names x p h = let m = mapped (slot_in x names) p h in inr (refl, m.0, m.1, m.2)

-- the value of a name is at its slot
pub lookup_slot : (e : Bindings) (x : Name) (p : ℕ) → slot_in x (names_of e) ≡ Some p → lookup x e ≡ option_map (λ (b : Name × Data). b.1) (slice_get e p)
lookup_slot [] x p h = absurd (cc)
lookup_slot (b ∷ e) x p h =
    elim (slot_first (same_name x b.0) (names_of e) x p h) [
      | inl w ↦ rw (w.0, w.1) refl
      | inr w ↦ rw (w.0, w.3) (lookup_slot e x w.1 w.2)
    ]

-- the slot of a name is below the number of variables
pub slot_within : (names : List (List ℕ)) (x : Name) (p : ℕ) → slot_in x (map Word names) ≡ Some p → p < length names
slot_within [] x p h = absurd (cc)
slot_within (n ∷ names) x p h =
    elim (slot_first (same_name x (Word n)) (map Word names) x p h) [
      | inl w ↦ omega arith
      | inr w ↦ let less = slot_within names x w.1 w.2 in omega arith
    ]

-- the slot of a name is the same among more names
pub slot_among_more : (names more : List Name) (x : Name) (p : ℕ) → slot_in x names ≡ Some p → slot_in x (names ++ more) ≡ Some p
slot_among_more [] more x p h = absurd (cc)
slot_among_more (n ∷ names) more x p h =
    elim (slot_first (same_name x n) names x p h) [
      | inl w ↦ rw (w.0, w.1) refl
      | inr w ↦ rw (w.0, w.3, slot_among_more names more x w.1 w.2) (ap (λ k. Some k) (omega arith))
    ]

-- the slot of a name among the first of several is one of theirs
pub slot_within_first : (names : List Name) (count : ℕ) (x : Name) (p : ℕ) → slot_in x (take count names) ≡ Some p → p < count
slot_within_first names zero x p h = absurd (cc)
slot_within_first [] (suc count) x p h = absurd (cc)
slot_within_first (n ∷ names) (suc count) x p h =
    elim (slot_first (same_name x n) (take count names) x p h) [
      | inl w ↦ omega arith
      | inr w ↦ let less = slot_within_first names count x w.1 w.2 in omega arith
    ]

-- a new value of one of the first variables is at its slot, and what is lent behind them stays
pub put_among_first : (names : List Name) (vs gs : List Data) (cs : List (List ℕ)) (x : Name) (p : ℕ) (v : Data) → slot_in x (take (length vs) names) ≡ Some p → put x v (environment names (vs ++ gs) cs) ≡ environment names (set vs p v ++ gs) cs
put_among_first names [] gs cs x p v h = absurd (cc)
put_among_first [] (u ∷ vs) gs cs x p v h = absurd (cc)
put_among_first (n ∷ names) (u ∷ vs) gs cs x p v h =
    elim (slot_first (same_name x n) (take (length vs) names) x p h) [
      | inl w ↦ rw (w.0, w.1) refl
      | inr w ↦ rw (w.0, w.3) (ap (λ (e : Bindings). (n, u) ∷ e) (put_among_first names vs gs cs x w.1 v w.2))
    ]

-- the names of pairs
names_zip : (names : List Name) (vs : List Data) → length names ≡ length vs → names_of (zip names vs) ≡ names
names_zip names vs h = firsts-zip names vs (sym h)

constant_names : (k : ℕ) (cs : List (List ℕ)) → names_of (constants_from k cs) ≡ map Word cs
constant_names k [] = refl
constant_names k (c ∷ cs) = ap (λ (ws : List Name). Word c ∷ ws) (constant_names (k + 1) cs)

-- the names of an environment are those of its variables and of its constants
pub names_environment : (names : List Name) (vs : List Data) (cs : List (List ℕ)) → length names ≡ length vs → names_of (environment names vs cs) ≡ names ++ map Word cs
names_environment names vs cs h = rw (map-append (λ (b : Name × Data). b.0) (zip names vs) (constants_from 0 cs), names_zip names vs h, constant_names 0 cs) refl

-- the value of a name in view is at its slot
pub lookup_view : (v : View) (vs : List Data) (x : Name) (p : ℕ) → IsNamed v vs → slot_in x (names_in_view v) ≡ Some p → lookup x (environment_of v vs) ≡ option_map (λ (b : Name × Data). b.1) (slice_get (environment_of v vs) p)
lookup_view v vs x p named h = lookup_slot (environment_of v vs) x p (ap (slot_in x) (names_environment (all_names v) (all_values v vs) v.constants.now named) ∙ h)

-- what is found is checked alone
pub found_there : (o : Option Slot) (d : Option Data) → option_map slot_value o ≡ d → IfSome o (λ s. checked_result d ≡ checked_result (Some (slot_value s)))
found_there None d h = tt
found_there (Some s) d h = ap checked_result (sym h)

-- if no value is given besides, an environment has the first values alone
pub none_given : (names : List Name) (vs : List Data) (cs : List (List ℕ)) → environment names (vs ++ []) cs ≡ environment names vs cs
none_given names vs cs = ap (λ (ds : List Data). environment names ds cs) (append-nil vs)

-- if as many values are there as names, all names are among the first
pub first_names : (names : List Name) (vs : List Data) → length names ≡ length vs → take (length vs) names ≡ names
first_names names vs h = take_all (length vs) names (omega arith)

-- the words of one owner, and the names that an invariant reads, are all names
pub one_list : (names : List (List ℕ)) → map Word (names ++ ([] ++ [])) ≡ map Word names
one_list names = ap (map Word) (append-nil names)

pub readings_alone : (names : List Name) → names ++ [] ≡ names
readings_alone names = append-nil names

-- the slot of a variable is its slot among all names in view
pub slot_among_all : (x : Name) (names more : List Name) (count at : ℕ) → slot_in x (take count names) ≡ Some at → slot_in x (names ++ more) ≡ Some at
slot_among_all x names more count at h =
    slot_among_more names more x at (subst (λ (ns : List Name). slot_in x ns ≡ Some at) (take-append-drop count names) (slot_among_more (take count names) (drop count names) x at h))

-- a target is one too if there are more variables
target_widely : {D : Type 0} (p : PlainTarget ℕ Callee D) (xs more names : List Name) → IsResolvedTarget p xs names → IsResolvedTarget p (xs ++ more) names
target_widely (variable x at d) xs more names h = slot_among_more xs more (Word x) at h
target_widely (at_key x at d k) xs more names h = (slot_among_more xs more (Word x) at h.0, h.1)
target_widely (at_field x at d f) xs more names h = slot_among_more xs more (Word x) at h

-- a target among the variables is one among the names in view
pub target_among_more : (p : PlainTarget ℕ Callee Shape) (names more : List Name) → IsResolvedTarget p names (names ++ more) → IsResolvedTarget p (names ++ more) (names ++ more)
target_among_more p names more h = target_widely p names more (names ++ more) h

-- a target among the first variables is one among the names in view
pub target_among_all : (p : PlainTarget ℕ Callee Shape) (names more : List Name) (count : ℕ) → IsResolvedTarget p (take count names) (names ++ more) → IsResolvedTarget p (names ++ more) (names ++ more)
target_among_all p names more count h =
    let widely = target_widely p (take count names) (drop count names) (names ++ more) h in
    target_among_more p names more (subst (λ (ns : List Name). IsResolvedTarget p ns (names ++ more)) (take-append-drop count names) widely)
