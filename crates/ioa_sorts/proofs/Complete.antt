-- The rules of sorts find each term of the text that has the shape.
use Rattle.std.proofs.Common.{◌≡◌, ◌⊎◌, inl, inr, ℕ, ◌+◌, Bool, true, false, List, [], ◌∷◌, Option, Some, None, Result, Ok, map, refl, sym, ap, subst, if◌then◌else◌}
use Rattle.std.specs.Option.{option_map}
use Rattle.std.specs.List.{AllByRecursion}
use Rattle.ioa_values.specs.Outcome.{and_then}
use Rattle.ioa_operators.specs.Operators.{function_named}
use Rattle.ioa_operators.specs.Shapes.{PlainShape, truths, integers, naturals, constants, tuples, sequences, sets, maps}
use Rattle.ioa_operators.specs.declared.operator.Function.{Function}
use Rattle.ioa_operators.specs.declared.operator.BinaryOperator.{BinaryOperator}
use Rattle.ioa_operators.specs.declared.shape.DisplayForm.{DisplayForm}
use Rattle.ioa_operators.specs.declared.shape.DisplayForm.TheVariants.{Braces, Brackets}
use Rattle.ioa_terms.specs.declared.callee.Callee.TheVariants as callee
use Rattle.ioa_terms.specs.Resolved.{IsCallee}
use Rattle.ioa_terms.specs.declared.callee.Callee.{Callee}
use Rattle.ioa_terms.specs.declared.name.Name.{Name}
use Rattle.ioa_terms.specs.declared.name.Name.TheVariants.{Word}
use Rattle.ioa_terms.specs.Inboxes.{inboxes_word}
use Rattle.ioa_terms.specs.Meaning.{is_inbox_word}
use Rattle.ioa_terms.specs.Bindings.{same_name, slot_in}
use Rattle.ioa_terms.specs.PlainTerm.{PlainTerm, PlainTerms, number, truth, name, one, two, call, display, field, no_terms, term, terms_of}
use Rattle.ioa_terms.specs.Resolved.{IsResolved, AreTermsResolved}
use Rattle.ioa_terms.specs.Sorted.{NameShapes, CallBy, HasShape, HaveShapes, DisplayIs, FunctionIs, head, tail, items, members, keys, quotient, remainder, inserted, deleted, united, updated, removed, defined, BinaryIs, equivalent, implies, either, both, equal, differ, below, at_most, above, at_least, item_of, member_of, prepended, appended, joined, sum, difference, product, at_key, shape_named, shape_in_terms, field_shape, listed_shapes}
use Rattle.ioa_source.specs.Erasure.{erase_term, erase_terms}
use Rattle.ioa_source.specs.Sides.{SourceTerm}
use Rattle.ioa_refusals.specs.declared.refusal.Refusal.{Refusal}
use Rattle.ioa_sort_rules.specs.declared.kinds.Single.{Single}
use Rattle.ioa_sort_rules.specs.declared.kinds.Pairing.{Pairing}
use Rattle.ioa_sort_rules.specs.declared.kinds.Pairing.TheVariants.{Both, Membership, Prepend, Append, Members, At, Removal, Definition}
use Rattle.ioa_sort_rules.specs.declared.kinds.Arity.TheVariants.{One, Two, Update}
use Rattle.ioa_sort_rules.specs.Kinds.{single_of, pairing_of, arity_of}
use Rattle.ioa_sort_rules.specs.Rows.{sides, value_of_one, other_of_left, other_of_right, declared_field, value_of_field}
use Rattle.ioa_sort_rules.proofs.Rules.{unary_from}
use Rattle.ioa_operators.specs.declared.shape.Shape.{Shape}
use Rattle.ioa_sort_rules.specs.declared.kinds.Single.TheVariants as single
use Rattle.ioa_sort_rules.specs.declared.kinds.Alike.TheVariants.{Numbers, Union}
use Rattle.ioa_typed.specs.Parts.{SortedTerm, PlainTyped, typed, PlainPair, pair, PlainUpdate, update, fit_typed, part_known, right_tells, field_known}
use Rattle.ioa_sorts.specs.Sorting.{Sorting, own, infer, fit, one_part, left_tells, left_known, right_known, two_parts, map_known, key_known, three_parts, call_one, call_two, call_three, inbox_of, inbox_known, call_of_none, call_of_arity, call_of_function, all_fit, each_fit, display_parts, display_at, name_known, sorting, sortings}
use Rattle.ioa_names.specs.Views.{declared_at, named}
use Rattle.ioa_sorts.specs.Determined.{is_display, displays, tells, tells_update, tells_parts, tells_call, IsDetermined, AreDetermined}
use Rattle.ioa_sorts.specs.SortedTerms.{IsTermOf}
use Rattle.ioa_sorts.proofs.Sound.{own_is, fit_is}
use Rattle.ioa_sorts.proofs.Types.{same_itself}

abbrev pub pair_is : SortedTerm → SortedTerm → PlainShape → Result PlainPair Refusal
pair_is l r s = Ok (pair l r s)

abbrev pub update_found : SortedTerm → SortedTerm → SortedTerm → PlainShape → Result PlainUpdate Refusal
update_found m k v s = Ok (update m k v s)

abbrev pub typed_is : SortedTerm → PlainShape → Result PlainTyped Refusal
typed_is t s = Ok (typed t s)

-- a rule of a form of two parts, as either part tells it
record IsRule (k : Pairing) (x y s : PlainShape) : Type 0 where
  left : (other_of_left k x ≡ Ok (Some (sides y s))) ⊎ ((other_of_left k x ≡ Ok None) × (other_of_right k y ≡ Ok (sides x s)) × (k ≡ Membership))
  right : (other_of_right k y ≡ Ok (sides x s)) ⊎ (tells k true false ≡ false)

binary_rule : {op : BinaryOperator} {x y s : PlainShape} → BinaryIs op x y s → IsRule (pairing_of op) x y s
binary_rule equivalent = record { left = inl refl; right = inl refl }
binary_rule implies = record { left = inl refl; right = inl refl }
binary_rule either = record { left = inl refl; right = inl refl }
binary_rule both = record { left = inl refl; right = inl refl }
binary_rule equal = record { left = inl refl; right = inl refl }
binary_rule differ = record { left = inl refl; right = inl refl }
binary_rule below = record { left = inl refl; right = inl refl }
binary_rule at_most = record { left = inl refl; right = inl refl }
binary_rule above = record { left = inl refl; right = inl refl }
binary_rule at_least = record { left = inl refl; right = inl refl }
binary_rule item_of = record { left = inr (refl, refl, refl); right = inl refl }
binary_rule member_of = record { left = inr (refl, refl, refl); right = inl refl }
binary_rule prepended = record { left = inl refl; right = inl refl }
binary_rule appended = record { left = inl refl; right = inl refl }
binary_rule joined = record { left = inl refl; right = inl refl }
binary_rule sum = record { left = inl refl; right = inl refl }
binary_rule difference = record { left = inl refl; right = inl refl }
binary_rule product = record { left = inl refl; right = inl refl }
binary_rule at_key = record { left = inl refl; right = inr refl }

-- two displays tell nothing
pub none_told : (k : Pairing) → tells k true true ≡ false
none_told (Both k) = refl
none_told Membership = refl
none_told Prepend = refl
none_told Append = refl
none_told Members = refl
none_told At = refl
none_told Removal = refl
none_told Definition = refl

-- a sorting finds a term of a shape; its own shape is known unless it is a display
abbrev pub Infers : Bool → SortedTerm → PlainShape → Sorting → Type 0
Infers true t s f = infer f ≡ Ok None
Infers false t s f = own_is t s ≡ infer f

pub record Finds (shut : Bool) (t : SortedTerm) (s : PlainShape) (f : Sorting) : Type 0 where
  pub fits : fit_is t ≡ fit f s
  pub infers : Infers shut t s f

typed_fits : (t : SortedTerm) (s : PlainShape) → fit_is t ≡ fit_typed s (typed t s)
unfolding fit_typed
typed_fits t s = rw (same_itself s) refl

own_finds : (t : SortedTerm) (s : PlainShape) (r : Result PlainTyped Refusal) → typed_is t s ≡ r → Finds false t s (own r)
own_finds t s r e = record { fits = rw (← e) (typed_fits t s); infers = rw (← e) refl }

-- forms of one part
part_found : (k : Single) (x s : PlainShape) → value_of_one k x ≡ Ok s → (t : SortedTerm) → typed_is t s ≡ part_known k (Some (typed t x))
unfolding part_known
part_found k x s e t = rw e refl

one_found : (k : Single) (x s : PlainShape) → value_of_one k x ≡ Ok s → (t : SortedTerm) (f : Sorting) → Finds false t x f → typed_is t s ≡ one_part k f
one_found k x s e t f h = rw (← h.infers) (part_found k x s e t)

-- forms of two parts
module _ (k : Pairing) (x y s : PlainShape) (l r : SortedTerm) where
  right_tells_found : other_of_right k y ≡ Ok (sides x s) → pair_is l r s ≡ right_tells k (typed l x) (Some (typed r y))
  unfolding right_tells
  right_tells_found e = rw (e, ← typed_fits l x) refl

  left_known_found : (g : Sorting) (b : Bool) → Finds b r y g → tells k false b ≡ true → IsRule k x y s → pair_is l r s ≡ left_known k (typed l x) g
  unfolding left_known
  left_known_found g b h told rule = by_left rule.left
    where
      by_open : (b : Bool) → Infers b r y g → tells Membership false b ≡ true → own_is r y ≡ infer g
      by_open true i e = absurd (cc)
      by_open false i e = i

      by_left : (other_of_left k x ≡ Ok (Some (sides y s))) ⊎ ((other_of_left k x ≡ Ok None) × (other_of_right k y ≡ Ok (sides x s)) × (k ≡ Membership)) → pair_is l r s ≡ and_then (other_of_left k x) (left_tells k (typed l x) g)
      by_left (inl e) = rw (e, ← h.fits) refl
      by_left (inr e) = rw (e.0, ← by_open b h.infers (subst (λ m. tells m false b ≡ true) e.2 told)) (right_tells_found e.1)

  right_known_found : (f : Sorting) → Finds true l x f → tells k true false ≡ true → IsRule k x y s → pair_is l r s ≡ right_known k f (typed r y)
  unfolding right_known
  right_known_found f h told rule = by_right rule.right
    where
      by_right : (other_of_right k y ≡ Ok (sides x s)) ⊎ (tells k true false ≡ false) → pair_is l r s ≡ and_then (other_of_right k y) (λ p. and_then (fit f p.other) (λ t. Ok (pair t r p.whole)))
      by_right (inl e) = rw (e, ← h.fits) refl
      by_right (inr e) = absurd (cc)

  two_found : (f g : Sorting) (a b : Bool) → Finds a l x f → Finds b r y g → tells k a b ≡ true → IsRule k x y s → pair_is l r s ≡ two_parts k f g
  two_found f g false b p q told rule = rw (← p.infers) (left_known_found g b q told rule)
  two_found f g true false p q told rule = rw (p.infers, ← q.infers) (right_known_found f p told rule)
  two_found f g true true p q told rule = let none = none_told k in absurd (cc)

-- `update`
module _ (ks vs : PlainShape) (m k v : SortedTerm) where
  map_known_found : (g h : Sorting) → fit_is k ≡ fit g ks → fit_is v ≡ fit h vs → update_found m k v (maps ks vs) ≡ map_known (typed m (maps ks vs)) g h
  unfolding map_known
  map_known_found g h p q = rw (← p, ← q) refl

  key_known_found : (f h : Sorting) → fit_is m ≡ fit f (maps ks vs) → own_is v vs ≡ infer h → update_found m k v (maps ks vs) ≡ key_known (typed k ks) f h
  unfolding key_known
  key_known_found f h p q = rw (← q, ← p) refl

  three_found : (f g h : Sorting) (a b c : Bool) → Finds a m (maps ks vs) f → Finds b k ks g → Finds c v vs h → tells_update a b c ≡ true → update_found m k v (maps ks vs) ≡ three_parts f g h
  three_found f g h false b c p q r told = rw (← p.infers) (map_known_found g h q.fits r.fits)
  three_found f g h true false false p q r told = rw (p.infers, ← q.infers) (key_known_found f h p.fits r.infers)
  three_found f g h true false true p q r told = absurd (cc)
  three_found f g h true true c p q r told = absurd (cc)

-- terms as a list
abbrev listed_terms : {N C D : Type 0} → PlainTerms N C D → List (PlainTerm N C D)
listed_terms no_terms = []
listed_terms (term t more) = t ∷ listed_terms more

terms_listed : {N C D : Type 0} (ts : PlainTerms N C D) → terms_of (listed_terms ts) ≡ ts
terms_listed no_terms = refl
terms_listed (term t more) = ap (term t) (terms_listed more)

abbrev list_is : List SortedTerm → Result (List SortedTerm) Refusal
list_is ts = Ok ts

-- the shape of a field, as the rules find it
pub field_found : (w : List ℕ) (x s : PlainShape) → option_map shape_in_terms (field_shape w x) ≡ Some s → value_of_field w x ≡ Ok s
field_found w truths s h = absurd (cc)
field_found w integers s h = absurd (cc)
field_found w naturals s h = absurd (cc)
field_found w (constants v k n) s h = absurd (cc)
field_found w (tuples v ns fs) s h = by_field (field_shape w (tuples v ns fs)) h
  where
    by_field : (o : Option PlainShape) → option_map shape_in_terms o ≡ Some s → declared_field o ≡ Ok s
    by_field None h = absurd (cc)
    by_field (Some f) h = let e : shape_in_terms f ≡ s = cc in ap Ok e
field_found w (sequences i) s h = absurd (cc)
field_found w (sets i) s h = absurd (cc)
field_found w (maps k v) s h = absurd (cc)

field_known_found : (w : List ℕ) (x s : PlainShape) (t : SortedTerm) → option_map shape_in_terms (field_shape w x) ≡ Some s → typed_is (field t w x) s ≡ field_known w (Some (typed t x))
unfolding field_known
field_known_found w x s t h = rw (field_found w x s h) refl

-- names
abbrev pub named_is_at : ℕ → PlainShape → Option (ℕ × PlainShape)
named_is_at k s = Some (k, s)

mapped : (o : Option ℕ) (p : ℕ) → option_map (λ k. k + 1) o ≡ Some p → (k : ℕ) × (o ≡ Some k) × (k + 1 ≡ p)
mapped None p h = absurd (cc)
mapped (Some k) p h = let e : k + 1 ≡ p = cc in (k, refl, e)

pub declared_found : (names : NameShapes) (x : Name) (at : ℕ) (s : PlainShape) → slot_in x (map (λ n. n.0) names) ≡ Some at → shape_named x names ≡ Some s → named_is_at at s ≡ declared_at x names
declared_found [] x at s h g = absurd (cc)
declared_found (n ∷ names) x at s h g = by_test (λ k. declared_found names x k s) (same_name x n.0) h g
  where
    later : (k : ℕ) → named_is_at k s ≡ declared_at x names → k + 1 ≡ at → named_is_at at s ≡ option_map (λ p. (p.0 + 1, p.1)) (declared_at x names)
    later k e f = rw (← e, ← f) refl

    by_test : ((at : ℕ) → slot_in x (map (λ n. n.0) names) ≡ Some at → shape_named x names ≡ Some s → named_is_at at s ≡ declared_at x names) → (b : Bool) → (if b then Some 0 else option_map (λ k. k + 1) (slot_in x (map (λ n. n.0) names))) ≡ Some at → (if b then Some n.1 else shape_named x names) ≡ Some s → named_is_at at s ≡ (if b then Some (0, n.1) else option_map (λ p. (p.0 + 1, p.1)) (declared_at x names))
    by_test rest true h g = let e : 0 ≡ at = cc in let f : n.1 ≡ s = cc in λ i. Some (sym e i, sym f i)
    by_test rest false h g = let m = mapped (slot_in x (map (λ n. n.0) names)) at h in later m.0 (rest m.0 m.1 g) m.2

named_found : (names : NameShapes) (x : Name) (at : ℕ) (s : PlainShape) → slot_in x (map (λ n. n.0) names) ≡ Some at → option_map shape_in_terms (shape_named x names) ≡ Some s → named_is_at at s ≡ named x names
named_found names x at s h g = by_shape (shape_named x names) refl g
  where
    by_shape : (o : Option PlainShape) → shape_named x names ≡ o → option_map shape_in_terms o ≡ Some s → named_is_at at s ≡ named x names
    by_shape None e g = absurd (cc)
    by_shape (Some d) e g = let f : shape_in_terms d ≡ s = cc in rw (← declared_found names x at d h e, ← f) refl

-- a name with a shape has a slot
name_known_found : (x : Name) (at : ℕ) (s : PlainShape) (o : Option (ℕ × PlainShape)) → named_is_at at s ≡ o → typed_is (name x at) s ≡ name_known x o
name_known_found x at s o e = rw (← e) refl

module _ (names : NameShapes) where
  -- terms one by one
  abbrev AreFound : PlainTerms ℕ Callee Shape → List PlainShape → Type 0
  AreFound no_terms [] = Unit {0}
  AreFound no_terms (s ∷ ss) = ⊥
  AreFound (term t ts) [] = ⊥
  AreFound (term t ts) (s ∷ ss) = Finds (is_display (erase_term t)) t s (sorting names (erase_term t)) × AreFound ts ss

  -- calls
  one_call_found : (w : List ℕ) (c : Callee) (k : Single) (x s : PlainShape) → value_of_one k x ≡ Ok s → (ts : PlainTerms ℕ Callee Shape) → AreFound ts (x ∷ []) → tells_parts (One k) (displays (erase_terms ts)) ≡ true → typed_is (call w c ts) s ≡ call_one w c k (sortings names (erase_terms ts))
  unfolding call_one
  one_call_found w c k x s e no_terms h told = absurd h
  one_call_found w c k x s e (term t no_terms) h told = by_open (is_display (erase_term t)) h.0 told
    where
      by_open : (b : Bool) → Finds b t x (sorting names (erase_term t)) → tells_parts (One k) (b ∷ []) ≡ true → typed_is (call w c (term t no_terms)) s ≡ and_then (one_part k (sorting names (erase_term t))) (λ t. Ok (typed (call w c (term t.tree no_terms)) t.shape))
      by_open true p e = absurd (cc)
      by_open false p q = rw (← one_found k x s e t (sorting names (erase_term t)) p) refl
  one_call_found w c k x s e (term t (term u ts)) h told = absurd h.1

  two_call_found : (w : List ℕ) (c : Callee) (k : Pairing) (x y s : PlainShape) → IsRule k x y s → (ts : PlainTerms ℕ Callee Shape) → AreFound ts (x ∷ y ∷ []) → tells_parts (Two k) (displays (erase_terms ts)) ≡ true → typed_is (call w c ts) s ≡ call_two w c k (sortings names (erase_terms ts))
  unfolding call_two
  two_call_found w c k x y s rule no_terms h told = absurd h
  two_call_found w c k x y s rule (term a no_terms) h told = absurd h.1
  two_call_found w c k x y s rule (term a (term b no_terms)) h told = rw (← two_found k x y s a b (sorting names (erase_term a)) (sorting names (erase_term b)) (is_display (erase_term a)) (is_display (erase_term b)) h.0 h.1.0 told rule) refl
  two_call_found w c k x y s rule (term a (term b (term d ts))) h told = absurd h.1.1

  three_call_found : (w : List ℕ) (c : Callee) (ks vs : PlainShape) (ts : PlainTerms ℕ Callee Shape) → AreFound ts (maps ks vs ∷ ks ∷ vs ∷ []) → tells_parts Update (displays (erase_terms ts)) ≡ true → typed_is (call w c ts) (maps ks vs) ≡ call_three w c (sortings names (erase_terms ts))
  unfolding call_three
  three_call_found w c ks vs no_terms h told = absurd h
  three_call_found w c ks vs (term a no_terms) h told = absurd h.1
  three_call_found w c ks vs (term a (term b no_terms)) h told = absurd h.1.1
  three_call_found w c ks vs (term a (term b (term d no_terms))) h told = rw (← three_found ks vs a b d (sorting names (erase_term a)) (sorting names (erase_term b)) (sorting names (erase_term d)) (is_display (erase_term a)) (is_display (erase_term b)) (is_display (erase_term d)) h.0 h.1.0 h.1.1.0 told) refl
  three_call_found w c ks vs (term a (term b (term d (term t ts)))) h told = absurd h.1.1.1

  call_found : (w : List ℕ) (c : Callee) (ts : PlainTerms ℕ Callee Shape) {f : Function} {xs : List PlainShape} {s : PlainShape} → FunctionIs f xs s → AreFound ts xs → tells_parts (arity_of f) (displays (erase_terms ts)) ≡ true → typed_is (call w c ts) s ≡ call_of_arity w c (sortings names (erase_terms ts)) (arity_of f)
  unfolding call_of_arity
  call_found w c ts (head {x}) h told = one_call_found w c single.Item (sequences x) x refl ts h told
  call_found w c ts (tail {x}) h told = one_call_found w c single.Rest (sequences x) (sequences x) refl ts h told
  call_found w c ts (items {x}) h told = one_call_found w c single.Length (sequences x) integers refl ts h told
  call_found w c ts (members {x}) h told = one_call_found w c single.Size (sets x) integers refl ts h told
  call_found w c ts (keys {k} {v}) h told = one_call_found w c single.Size (maps k v) integers refl ts h told
  call_found w c ts quotient h told = two_call_found w c (Both Numbers) integers integers integers (record { left = inl refl; right = inl refl }) ts h told
  call_found w c ts remainder h told = two_call_found w c (Both Numbers) integers integers integers (record { left = inl refl; right = inl refl }) ts h told
  call_found w c ts (inserted {x}) h told = two_call_found w c Members x (sets x) (sets x) (record { left = inl refl; right = inl refl }) ts h told
  call_found w c ts (deleted {x}) h told = two_call_found w c Members x (sets x) (sets x) (record { left = inl refl; right = inl refl }) ts h told
  call_found w c ts (united {x}) h told = two_call_found w c (Both Union) (sets x) (sets x) (sets x) (record { left = inl refl; right = inl refl }) ts h told
  call_found w c ts (updated {k} {v}) h told = three_call_found w c k v ts h told
  call_found w c ts (removed {k} {v}) h told = two_call_found w c Removal (maps k v) k (maps k v) (record { left = inl refl; right = inr refl }) ts h told
  call_found w c ts (defined {k} {v}) h told = two_call_found w c Definition (maps k v) k truths (record { left = inl refl; right = inr refl }) ts h told

  -- a call of `inbox`
  inbox_of_found : (w : List ℕ) (c : Callee) (k v : PlainShape) (ts : PlainTerms ℕ Callee Shape) → AreFound ts (k ∷ []) → typed_is (call w c ts) v ≡ inbox_of w c (sortings names (erase_terms ts)) (sides k v)
  unfolding inbox_of
  inbox_of_found w c k v no_terms h = absurd h
  inbox_of_found w c k v (term a no_terms) h = rw (← h.0.fits) refl
  inbox_of_found w c k v (term a (term b ts)) h = absurd h.1

  inbox_found : (w : List ℕ) (at : ℕ) (k s : PlainShape) (ts : PlainTerms ℕ Callee Shape) → slot_in (Word inboxes_word) (map (λ n. n.0) names) ≡ Some at → option_map shape_in_terms (shape_named (Word inboxes_word) names) ≡ Some (maps k s) → AreFound ts (k ∷ []) → typed_is (call w (callee.Inboxes at) ts) s ≡ inbox_known w (sortings names (erase_terms ts)) (named (Word inboxes_word) names)
  inbox_found w at k s ts stands g h =
      rw (← named_found names (Word inboxes_word) at (maps k s) stands g) (inbox_of_found w (callee.Inboxes at) k s ts h)

  none_found : (w : List ℕ) (at : ℕ) (ts : PlainTerms ℕ Callee Shape) (k s : PlainShape) → is_inbox_word w ≡ true → slot_in (Word inboxes_word) (map (λ n. n.0) names) ≡ Some at → option_map shape_in_terms (shape_named (Word inboxes_word) names) ≡ Some (maps k s) → AreFound ts (k ∷ []) → typed_is (call w (callee.Inboxes at) ts) s ≡ call_of_none names w (sortings names (erase_terms ts))
  unfolding call_of_none
  none_found w at ts k s is stands g h = rw is (inbox_found w at k s ts stands g h)

  -- a call, by what it is of
  call_by_found : (w : List ℕ) (c : Callee) (ts : PlainTerms ℕ Callee Shape) (o : Option Function) (xs : List PlainShape) (s : PlainShape) → function_named w ≡ o → IsCallee w c (map (λ n. n.0) names) → CallBy o names w xs s → AreFound ts xs → tells_call o (displays (erase_terms ts)) ≡ true → typed_is (call w c ts) s ≡ call_of_function names w (sortings names (erase_terms ts)) o
  call_by_found w (callee.Function f) ts None xs s named is h g told = absurd (cc)
  call_by_found w (callee.Inboxes at) ts None xs s named is h g told = none_found w at ts h.0 s h.1 is.2 h.3 (subst (AreFound ts) h.2 g)
  call_by_found w (callee.Function f) ts (Some e) xs s named is h g told =
      let same : e ≡ f = cc in
      subst (λ d. typed_is (call w (callee.Function d) ts) s ≡ call_of_arity w (callee.Function e) (sortings names (erase_terms ts)) (arity_of e)) same (call_found w (callee.Function e) ts h g told)
  call_by_found w (callee.Inboxes at) ts (Some e) xs s named is h g told = absurd (cc)

  -- displays
  all_found : (s : PlainShape) (ts : PlainTerms ℕ Callee Shape) (ss : List PlainShape) → AreFound ts ss → AllByRecursion (λ y. y ≡ s) ss → list_is (listed_terms ts) ≡ all_fit (sortings names (erase_terms ts)) s
  all_found s no_terms [] h g = refl
  all_found s no_terms (y ∷ ss) h g = absurd h
  all_found s (term t ts) [] h g = absurd h
  all_found s (term t ts) (y ∷ ss) h g = rw (← (subst (λ z. fit_is t ≡ fit (sorting names (erase_term t)) z) g.0 h.0.fits), ← (all_found s ts ss h.1 g.1)) refl

  each_found : (ts : PlainTerms ℕ Callee Shape) (ss : List PlainShape) → AreFound ts ss → list_is (listed_terms ts) ≡ each_fit (sortings names (erase_terms ts)) ss
  each_found no_terms [] h = refl
  each_found no_terms (y ∷ ss) h = absurd h
  each_found (term t ts) [] h = absurd h
  each_found (term t ts) (y ∷ ss) h = rw (← h.0.fits, ← (each_found ts ss h.1)) refl

  parts_found : (form : DisplayForm) (d : PlainShape) (ts : PlainTerms ℕ Callee Shape) (ss : List PlainShape) → AreFound ts ss → DisplayIs form ss d → list_is (listed_terms ts) ≡ display_parts form (sortings names (erase_terms ts)) d
  unfolding display_parts
  parts_found Braces truths ts ss h g = absurd g
  parts_found Braces integers ts ss h g = absurd g
  parts_found Braces naturals ts ss h g = absurd g
  parts_found Braces (constants w k n) ts ss h g = absurd g
  parts_found Braces (tuples w ns fs) ts ss h g = absurd g
  parts_found Braces (sequences x) ts ss h g = all_found x ts ss h g
  parts_found Braces (sets x) ts ss h g = all_found x ts ss h g
  parts_found Braces (maps k v) ts ss h g = subst (λ xs. AreFound ts xs → list_is (listed_terms ts) ≡ each_fit (sortings names (erase_terms ts)) []) (sym g) (each_found ts []) h
  parts_found Brackets truths ts ss h g = absurd g
  parts_found Brackets integers ts ss h g = absurd g
  parts_found Brackets naturals ts ss h g = absurd g
  parts_found Brackets (constants w k n) ts ss h g = absurd g
  parts_found Brackets (tuples w ns fs) ts ss h g = each_found ts (map shape_in_terms (listed_shapes fs)) (subst (AreFound ts) g h)
  parts_found Brackets (sequences x) ts ss h g = absurd g
  parts_found Brackets (sets x) ts ss h g = absurd g
  parts_found Brackets (maps k v) ts ss h g = absurd g

  display_found : (form : DisplayForm) (d : PlainShape) (ts : PlainTerms ℕ Callee Shape) (ss : List PlainShape) → AreFound ts ss → DisplayIs form ss d → fit_is (display form d ts) ≡ display_at form (sortings names (erase_terms ts)) d
  display_found form d ts ss h g = rw (← parts_found form d ts ss h g, terms_listed ts) refl

  mutual
    pub finds : (t : SortedTerm) (s : PlainShape) → HasShape names t s → IsResolved t (map (λ n. n.0) names) → IsDetermined (erase_term t) → Finds (is_display (erase_term t)) t s (sorting names (erase_term t))
    finds (number n) s h r d = own_finds (number n) s (typed_is (number n) integers) (rw h refl)
    finds (truth b) s h r d = own_finds (truth b) s (typed_is (truth b) truths) (rw h refl)
    finds (name x at) s h r d = own_finds (name x at) s (name_known x (named x names)) (name_known_found x at s (named x names) (named_found names x at s r h))
    finds (one op a) s h r d =
        let p = subst (λ b. Finds b a h.0 (sorting names (erase_term a))) d.1 (finds a h.0 h.1 r d.0) in
        own_finds (one op a) s _ (rw (← one_found (single_of op) h.0 s (unary_from h.2) a (sorting names (erase_term a)) p) refl)
    finds (two op a b) s h r d =
        own_finds (two op a b) s _ (rw (← two_found (pairing_of op) h.0 h.1 s a b (sorting names (erase_term a)) (sorting names (erase_term b)) (is_display (erase_term a)) (is_display (erase_term b)) (finds a h.0 h.2 r.0 d.0) (finds b h.1 h.3 r.1 d.1) d.2 (binary_rule h.4)) refl)
    finds (call w c ts) s h r d =
        own_finds (call w c ts) s (call_of_function names w (sortings names (erase_terms ts)) (function_named w)) (call_by_found w c ts (function_named w) h.0 s refl r.0 h.2 (each_finds ts h.0 h.1 r.1 d.0) d.1)
    finds (display form e ts) s h r d = record { fits = rw h.1 (display_found form e ts h.0 (each_finds ts h.0 h.2 r d) h.3); infers = refl }
    finds (field a w e) s h r d =
        let p = subst (λ b. Finds b a e (sorting names (erase_term a))) d.1 (finds a e h.0 r d.0) in
        own_finds (field a w e) s _ (rw (← p.infers) (field_known_found w e s a h.1))

    each_finds : (ts : PlainTerms ℕ Callee Shape) (ss : List PlainShape) → HaveShapes names ts ss → AreTermsResolved ts (map (λ n. n.0) names) → AreDetermined (erase_terms ts) → AreFound ts ss
    each_finds no_terms [] h r d = tt
    each_finds no_terms (s ∷ ss) h r d = absurd h
    each_finds (term t ts) [] h r d = absurd h
    each_finds (term t ts) (s ∷ ss) h r d = (finds t s h.0 r.0 d.0, each_finds ts ss h.1 r.1 d.1)

  -- the law
  pub fit_complete : (u : SourceTerm) (t : SortedTerm) (s : PlainShape) → IsTermOf names u t s → fit_is t ≡ fit (sorting names u) s
  fit_complete u t s h = subst (λ v. IsDetermined v → fit_is t ≡ fit (sorting names v) s) h.same (λ d. (finds t s h.has_shape h.resolved d).fits) h.determined

  pub infer_complete : (u : SourceTerm) (t : SortedTerm) (s : PlainShape) → IsTermOf names u t s → is_display u ≡ false → own_is t s ≡ infer (sorting names u)
  infer_complete u t s h = subst (λ v. IsDetermined v → is_display v ≡ false → own_is t s ≡ infer (sorting names v)) h.same (λ d e. subst (λ b. Infers b t s (sorting names (erase_term t))) e (finds t s h.has_shape h.resolved d).infers) h.determined
