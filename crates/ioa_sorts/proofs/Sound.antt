-- What the rules of sorts find of a term.
use Rattle.std.proofs.Common.{◌≡◌, ◌⊎◌, inl, inr, ℕ, ◌+◌, Bool, true, false, IfOk, List, [], ◌∷◌, Option, Some, None, Result, Ok, Err, map, refl, sym, ap, subst, ◌∙◌, if◌then◌else◌}
use Rattle.std.specs.Option.{option_map}
use Rattle.std.specs.List.{AllByRecursion}
use Rattle.ioa_values.specs.Outcome.{and_then}
use Rattle.ioa_operators.specs.Operators.{function_named}
use Rattle.ioa_operators.specs.Shapes.{PlainShape, truths, integers, naturals, constants, tuples, sequences, sets, maps}
use Rattle.ioa_operators.specs.declared.operator.Function.{Function}
use Rattle.ioa_operators.specs.declared.operator.BinaryOperator.{BinaryOperator}
use Rattle.ioa_operators.specs.declared.shape.DisplayForm.{DisplayForm}
use Rattle.ioa_operators.specs.declared.shape.DisplayForm.TheVariants.{Braces, Brackets}
use Rattle.ioa_terms.specs.declared.callee.Callee.TheVariants as callee
use Rattle.ioa_terms.specs.declared.name.Name.{Name}
use Rattle.ioa_terms.specs.declared.name.Name.TheVariants.{Word}
use Rattle.ioa_terms.specs.Bindings.{same_name, slot_in}
use Rattle.ioa_terms.specs.PlainTerm.{number, truth, name, one, two, call, display, field, no_terms, term, terms_of}
use Rattle.ioa_terms.specs.Resolved.{AreTermsResolved}
use Rattle.ioa_terms.specs.Inboxes.{inboxes_word}
use Rattle.ioa_terms.specs.Meaning.{is_inbox_word}
use Rattle.ioa_terms.specs.Sorted.{NameShapes, HaveShapes, DisplayIs, FunctionIs, CallBy, CallIs, BinaryIs, shape_named, shape_in_terms, field_shape, listed_shapes}
use Rattle.ioa_source.specs.Erasure.{erase_terms}
use Rattle.ioa_source.specs.Sides.{SourceTerm, SourceTerms}
use Rattle.ioa_refusals.specs.declared.refusal.Refusal.{Refusal}
use Rattle.ioa_refusals.specs.declared.refusal.Refusal.TheVariants.{Sorts, Unknown}
use Rattle.ioa_sort_rules.specs.declared.kinds.Single.{Single}
use Rattle.ioa_sort_rules.specs.declared.kinds.Pairing.{Pairing}
use Rattle.ioa_sort_rules.specs.declared.kinds.Pairing.TheVariants.{Both, Membership, Prepend, Append, Members, At, Removal, Definition}
use Rattle.ioa_sort_rules.specs.declared.kinds.Arity.{Arity}
use Rattle.ioa_sort_rules.specs.declared.kinds.Arity.TheVariants.{One, Two, Update}
use Rattle.ioa_sort_rules.specs.Kinds.{single_of, pairing_of, arity_of}
use Rattle.ioa_sort_rules.specs.Rows.{PlainSides, sides, value_of_one, other_of_left, other_of_right, entry_of, declared_field, value_of_field}
use Rattle.ioa_sort_rules.specs.SameSorts.{same_sort}
use Rattle.ioa_sort_rules.proofs.Rules.{unary_is, left_is, right_is, one_is, two_left_is, two_right_is, update_is}
use Rattle.ioa_typed.specs.Parts.{SortedTerm, PlainTyped, typed, PlainPair, pair, PlainUpdate, update, fit_typed, part_known, right_tells, field_known}
use Rattle.ioa_sorts.specs.Sorting.{Sorting, own, given, infer, fit, one_part, left_tells, left_known, right_known, right_first, left_first, two_parts, map_known, value_first, key_known, key_first, map_first, three_parts, call_one, call_two, call_three, inbox_of, inbox_known, call_of_none, call_of_arity, call_of_function, all_fit, each_fit, display_parts, display_at, name_known, sorting, sortings}
use Rattle.ioa_names.specs.Views.{declared_at, named}
use Rattle.ioa_sorts.specs.Determined.{is_display, tells, tells_update, AreDetermined}
use Rattle.ioa_sort_rules.specs.DeclaredTypes.{TupleTypes, IsDeclared, AreAllDeclared}
use Rattle.ioa_sorts.specs.SortedTerms.{IsTermOf}
use Rattle.ioa_sorts.proofs.Chains.{chain}
use Rattle.ioa_sorts.proofs.Types.{same_is, in_terms, listed, field_declared, one_declared, left_declared, right_declared, entry_declared, AreBoth, AreBothIfTold}

-- a term that is found, with declared types alone in its shape
pub record IsFound (types : TupleTypes) (names : NameShapes) (u : SourceTerm) (t : SortedTerm) (s : PlainShape) : Type 0 where
  pub of : IsTermOf names u t s
  pub declared : IsDeclared types s

-- the part of a form of one
record IsPart (types : TupleTypes) (names : NameShapes) (k : Single) (u : SourceTerm) (t : PlainTyped) : Type 0 where
  part : PlainShape
  found : IsFound types names u t.tree part
  value : value_of_one k part ≡ Ok t.shape
  declared : IsDeclared types t.shape
  bare : is_display u ≡ false

-- the parts of a form of two
record IsPairOf (types : TupleTypes) (names : NameShapes) (k : Pairing) (u v : SourceTerm) (p : PlainPair) : Type 0 where
  x : PlainShape
  y : PlainShape
  first : IsFound types names u p.left x
  second : IsFound types names v p.right y
  rule : (other_of_left k x ≡ Ok (Some (sides y p.whole))) ⊎ (other_of_right k y ≡ Ok (sides x p.whole))
  declared : IsDeclared types p.whole
  told : tells k (is_display u) (is_display v) ≡ true

-- the parts of `update`
record IsUpdateOf (types : TupleTypes) (names : NameShapes) (u v w : SourceTerm) (p : PlainUpdate) : Type 0 where
  keys : PlainShape
  values : PlainShape
  whole : p.whole ≡ maps keys values
  first : IsFound types names u p.map p.whole
  second : IsFound types names v p.key keys
  third : IsFound types names w p.value values
  told : tells_update (is_display u) (is_display v) (is_display w) ≡ true

-- terms one by one
record AreFound (types : TupleTypes) (names : NameShapes) (us : SourceTerms) (ts : List SortedTerm) (ss : List PlainShape) : Type 0 where
  same : erase_terms (terms_of ts) ≡ us
  resolved : AreTermsResolved (terms_of ts) (map (λ n. n.0) names)
  shapes : HaveShapes names (terms_of ts) ss
  determined : AreDetermined us

-- the left part tells, so a display on the right is determined
left_told : (k : Pairing) (x : PlainShape) (p : PlainSides) (b : Bool) → other_of_left k x ≡ Ok (Some p) → tells k false b ≡ true
left_told (Both k) x p b h = refl
left_told Membership x p b h = absurd (cc)
left_told Prepend x p b h = refl
left_told Append x p b h = refl
left_told Members x p b h = refl
left_told At x p b h = refl
left_told Removal x p b h = refl
left_told Definition x p b h = refl

-- and the right part
right_told : (k : Pairing) (y : PlainShape) (p : PlainSides) → other_of_right k y ≡ Ok p → tells k true false ≡ true
right_told (Both k) y p h = refl
right_told Membership y p h = refl
right_told Prepend y p h = refl
right_told Append y p h = refl
right_told Members y p h = refl
right_told At y p h = absurd (cc)
right_told Removal y p h = absurd (cc)
right_told Definition y p h = absurd (cc)

both_told : (k : Pairing) → tells k false false ≡ true
both_told (Both k) = refl
both_told Membership = refl
both_told Prepend = refl
both_told Append = refl
both_told Members = refl
both_told At = refl
both_told Removal = refl
both_told Definition = refl

-- what is found of a field's shape
pub field_is : (w : List ℕ) (x s : PlainShape) → value_of_field w x ≡ Ok s → option_map shape_in_terms (field_shape w x) ≡ Some s
field_is w truths s h = absurd (cc)
field_is w integers s h = absurd (cc)
field_is w naturals s h = absurd (cc)
field_is w (constants v k n) s h = absurd (cc)
field_is w (tuples v ns fs) s h = by_field (field_shape w (tuples v ns fs)) h
  where
    by_field : (o : Option PlainShape) → declared_field o ≡ Ok s → option_map shape_in_terms o ≡ Some s
    by_field None h = absurd (cc)
    by_field (Some f) h = let e : shape_in_terms f ≡ s = cc in ap Some e
field_is w (sequences i) s h = absurd (cc)
field_is w (sets i) s h = absurd (cc)
field_is w (maps k v) s h = absurd (cc)

-- what is found of a name, with its declared shape
pub record IsDeclaredAt (types : TupleTypes) (names : NameShapes) (x : Name) (p : ℕ × PlainShape) : Type 0 where
  pub slot : slot_in x (map (λ n. n.0) names) ≡ Some p.0
  pub shape : shape_named x names ≡ Some p.1
  pub declared : IsDeclared types p.1

abbrev pub IsDeclaredIf : TupleTypes → NameShapes → Name → Option (ℕ × PlainShape) → Type 0
IsDeclaredIf types names x None = Unit {0}
IsDeclaredIf types names x (Some p) = IsDeclaredAt types names x p

pub declared_is : (types : TupleTypes) (names : NameShapes) (x : Name) → AreAllDeclared types names → IsDeclaredIf types names x (declared_at x names)
declared_is types [] x h = tt
declared_is types (n ∷ names) x h = by_test (declared_is types names x h.1) (same_name x n.0) refl
  where
    later : (b : Bool) → same_name x n.0 ≡ b → b ≡ false → (o : Option (ℕ × PlainShape)) → IsDeclaredIf types names x o → IsDeclaredIf types (n ∷ names) x (option_map (λ p. (p.0 + 1, p.1)) o)
    later b e f None k = tt
    later b e f (Some p) k = record { slot = rw (e, f, k.slot) refl; shape = rw (e, f) k.shape; declared = k.declared }

    by_test : IsDeclaredIf types names x (declared_at x names) → (b : Bool) → same_name x n.0 ≡ b → IsDeclaredIf types (n ∷ names) x (if b then Some (0, n.1) else option_map (λ p. (p.0 + 1, p.1)) (declared_at x names))
    by_test rest true e = record { slot = rw e refl; shape = rw e refl; declared = h.0 }
    by_test rest false e = later false e refl (declared_at x names) rest

binary_rule : (op : BinaryOperator) (x y s : PlainShape) → (other_of_left (pairing_of op) x ≡ Ok (Some (sides y s))) ⊎ (other_of_right (pairing_of op) y ≡ Ok (sides x s)) → BinaryIs op x y s
binary_rule op x y s (inl h) = left_is op x y s h
binary_rule op x y s (inr h) = right_is op x y s h

abbrev pub own_is : SortedTerm → PlainShape → Result (Option PlainTyped) Refusal
own_is t s = Ok (Some (typed t s))

abbrev pub fit_is : SortedTerm → Result SortedTerm Refusal
fit_is t = Ok t

module _ (types : TupleTypes) (names : NameShapes) where
  -- what a sorting finds is found: a term with its own shape, or a display at each shape with declared types
  abbrev Good : SourceTerm → Sorting → Type 0
  Good u (own r) = (is_display u ≡ false) × IfOk r (λ p. IsFound types names u p.tree p.shape)
  Good u (given f) = (is_display u ≡ true) × ((s : PlainShape) → IsDeclared types s → IfOk (f s) (λ t. IsFound types names u t s))

  abbrev AreGood : SourceTerms → List Sorting → Type 0
  AreGood no_terms [] = Unit {0}
  AreGood no_terms (f ∷ fs) = ⊥
  AreGood (term u us) [] = ⊥
  AreGood (term u us) (f ∷ fs) = Good u f × AreGood us fs

  abbrev IsKnown : SourceTerm → Option PlainTyped → Type 0
  IsKnown u None = is_display u ≡ true
  IsKnown u (Some p) = (is_display u ≡ false) × IsFound types names u p.tree p.shape

  infer_good : (u : SourceTerm) (f : Sorting) → Good u f → IfOk (infer f) (IsKnown u)
  infer_good u (own r) g = chain (λ p. IsFound types names u p.tree p.shape) (IsKnown u) (λ t. Ok (Some t)) r g.1 (λ p h. (g.0, h))
  infer_good u (given f) g = g.0

  typed_good : (u : SourceTerm) (p : PlainTyped) (s : PlainShape) → IsFound types names u p.tree p.shape → IsDeclared types s → IfOk (fit_typed s p) (λ t. IsFound types names u t s)
  unfolding fit_typed
  typed_good u p s h d = by_test (same_sort p.shape s) (same_is types p.shape s h.declared d)
    where
      by_test : (b : Bool) → (b ≡ true → p.shape ≡ s) → IfOk (if b then Ok p.tree else Err Sorts) (λ t. IsFound types names u t s)
      by_test true e = subst (λ x. IsFound types names u p.tree x) (e refl) h
      by_test false e = tt

  fit_good : (u : SourceTerm) (f : Sorting) (s : PlainShape) → Good u f → IsDeclared types s → IfOk (fit f s) (λ t. IsFound types names u t s)
  fit_good u (own r) s g d = chain (λ p. IsFound types names u p.tree p.shape) (λ t. IsFound types names u t s) (fit_typed s) r g.1 (λ p h. typed_good u p s h d)
  fit_good u (given f) s g d = g.1 s d

  -- forms of one part
  part_good : (k : Single) (u : SourceTerm) (o : Option PlainTyped) → IsKnown u o → IfOk (part_known k o) (IsPart types names k u)
  unfolding part_known
  part_good k u None h = tt
  part_good k u (Some p) h = by_value (value_of_one k p.shape) refl (one_declared types k p.shape h.1.declared)
    where
      by_value : (r : Result PlainShape Refusal) → value_of_one k p.shape ≡ r → IfOk r (IsDeclared types) → IfOk (and_then r (λ s. Ok (typed p.tree s))) (IsPart types names k u)
      by_value (Ok s) e d = record { part = p.shape; found = h.1; value = e; declared = d; bare = h.0 }
      by_value (Err x) e d = tt

  one_good : (k : Single) (u : SourceTerm) (f : Sorting) → Good u f → IfOk (one_part k f) (IsPart types names k u)
  one_good k u f g = chain (IsKnown u) (IsPart types names k u) (part_known k) (infer f) (infer_good u f g) (part_good k u)

  -- forms of two parts
  module _ (k : Pairing) (u v : SourceTerm) where
    right_tells_good : (l : PlainTyped) → (is_display u ≡ false) → IsFound types names u l.tree l.shape → (o : Option PlainTyped) → IsKnown v o → IfOk (right_tells k l o) (IsPairOf types names k u v)
    unfolding right_tells
    right_tells_good l bare h None q = tt
    right_tells_good l bare h (Some r) q = by_other (other_of_right k r.shape) refl (right_declared types k r.shape q.1.declared)
      where
        by_other : (o : Result PlainSides Refusal) → other_of_right k r.shape ≡ o → IfOk o (AreBoth types) → IfOk (and_then o (λ p. and_then (fit_typed p.other l) (λ t. Ok (pair t r.tree p.whole)))) (IsPairOf types names k u v)
        by_other (Ok p) e d = chain (λ t. IsFound types names u t p.other) (IsPairOf types names k u v) (λ t. Ok (pair t r.tree p.whole)) (fit_typed p.other l) (typed_good u l p.other h d.0)
            (λ t found. record { x = p.other; y = r.shape; first = found; second = q.1; rule = inr e; declared = d.1; told = rw (bare, q.0) (both_told k) })
        by_other (Err x) e d = tt

    left_known_good : (l : PlainTyped) → (is_display u ≡ false) → IsFound types names u l.tree l.shape → (g : Sorting) → Good v g → IfOk (left_known k l g) (IsPairOf types names k u v)
    unfolding left_known
    left_known_good l bare h g good = by_other (other_of_left k l.shape) refl (left_declared types k l.shape h.declared)
      where
        by_other : (o : Result (Option PlainSides) Refusal) → other_of_left k l.shape ≡ o → IfOk o (AreBothIfTold types) → IfOk (and_then o (left_tells k l g)) (IsPairOf types names k u v)
        by_other (Ok (Some p)) e d = chain (λ t. IsFound types names v t p.other) (IsPairOf types names k u v) (λ t. Ok (pair l.tree t p.whole)) (fit g p.other) (fit_good v g p.other good d.0)
            (λ t found. record { x = l.shape; y = p.other; first = h; second = found; rule = inl e; declared = d.1; told = rw bare (left_told k l.shape p (is_display v) e) })
        by_other (Ok None) e d = chain (IsKnown v) (IsPairOf types names k u v) (right_tells k l) (infer g) (infer_good v g good) (right_tells_good l bare h)
        by_other (Err x) e d = tt

    right_known_good : (f : Sorting) → Good u f → (is_display u ≡ true) → (r : PlainTyped) → (is_display v ≡ false) → IsFound types names v r.tree r.shape → IfOk (right_known k f r) (IsPairOf types names k u v)
    unfolding right_known
    right_known_good f good shut r bare h = by_other (other_of_right k r.shape) refl (right_declared types k r.shape h.declared)
      where
        by_other : (o : Result PlainSides Refusal) → other_of_right k r.shape ≡ o → IfOk o (AreBoth types) → IfOk (and_then o (λ p. and_then (fit f p.other) (λ t. Ok (pair t r.tree p.whole)))) (IsPairOf types names k u v)
        by_other (Ok p) e d = chain (λ t. IsFound types names u t p.other) (IsPairOf types names k u v) (λ t. Ok (pair t r.tree p.whole)) (fit f p.other) (fit_good u f p.other good d.0)
            (λ t found. record { x = p.other; y = r.shape; first = found; second = h; rule = inr e; declared = d.1; told = rw (shut, bare) (right_told k r.shape p e) })
        by_other (Err x) e d = tt

    two_good : (f g : Sorting) → Good u f → Good v g → IfOk (two_parts k f g) (IsPairOf types names k u v)
    two_good f g p q = chain (IsKnown u) (IsPairOf types names k u v) (left_first k f g) (infer f) (infer_good u f p) by_left
      where
        by_right : is_display u ≡ true → (o : Option PlainTyped) → IsKnown v o → IfOk (right_first k f o) (IsPairOf types names k u v)
        by_right shut None h = tt
        by_right shut (Some r) h = right_known_good f p shut r h.0 h.1

        by_left : (o : Option PlainTyped) → IsKnown u o → IfOk (left_first k f g o) (IsPairOf types names k u v)
        by_left None shut = chain (IsKnown v) (IsPairOf types names k u v) (right_first k f) (infer g) (infer_good v g q) (by_right shut)
        by_left (Some l) h = left_known_good l h.0 h.1 g q

  -- `update`
  module _ (u v w : SourceTerm) where
    map_known_good : (m : PlainTyped) → (is_display u ≡ false) → IsFound types names u m.tree m.shape → (g h : Sorting) → Good v g → Good w h → IfOk (map_known m g h) (IsUpdateOf types names u v w)
    unfolding map_known
    map_known_good m bare found g h p q =
        chain (λ e. AreBoth types e × (m.shape ≡ maps e.other e.whole)) (IsUpdateOf types names u v w) (λ e. and_then (fit g e.other) (λ k. and_then (fit h e.whole) (λ x. Ok (update m.tree k x m.shape)))) (entry_of m.shape) (entry_declared types m.shape found.declared)
        (λ e d. chain (λ k. IsFound types names v k e.other) (IsUpdateOf types names u v w) (λ k. and_then (fit h e.whole) (λ x. Ok (update m.tree k x m.shape))) (fit g e.other) (fit_good v g e.other p d.0.0)
        (λ k key. chain (λ x. IsFound types names w x e.whole) (IsUpdateOf types names u v w) (λ x. Ok (update m.tree k x m.shape)) (fit h e.whole) (fit_good w h e.whole q d.0.1)
        (λ x value. record { keys = e.other; values = e.whole; whole = d.1; first = found; second = key; third = value; told = rw bare refl })))

    key_known_good : (k : PlainTyped) → (is_display v ≡ false) → IsFound types names v k.tree k.shape → (f h : Sorting) → Good u f → Good w h → IfOk (key_known k f h) (IsUpdateOf types names u v w)
    unfolding key_known
    key_known_good k bare found f h p q = chain (IsKnown w) (IsUpdateOf types names u v w) (value_first k f) (infer h) (infer_good w h q) by_value
      where
        told : (b : Bool) → tells_update b false false ≡ true
        told true = refl
        told false = refl

        by_value : (o : Option PlainTyped) → IsKnown w o → IfOk (value_first k f o) (IsUpdateOf types names u v w)
        by_value None e = tt
        by_value (Some x) e = chain (λ m. IsFound types names u m (maps k.shape x.shape)) (IsUpdateOf types names u v w) (λ m. Ok (update m k.tree x.tree (maps k.shape x.shape))) (fit f (maps k.shape x.shape)) (fit_good u f (maps k.shape x.shape) p (found.declared, e.1.declared))
            (λ m map. record { keys = k.shape; values = x.shape; whole = refl; first = map; second = found; third = e.1; told = rw (bare, e.0) (told (is_display u)) })

    three_good : (f g h : Sorting) → Good u f → Good v g → Good w h → IfOk (three_parts f g h) (IsUpdateOf types names u v w)
    three_good f g h p q r = chain (IsKnown u) (IsUpdateOf types names u v w) (map_first f g h) (infer f) (infer_good u f p) by_map
      where
        by_key : (o : Option PlainTyped) → IsKnown v o → IfOk (key_first f h o) (IsUpdateOf types names u v w)
        by_key None e = tt
        by_key (Some k) e = key_known_good k e.0 e.1 f h p r

        by_map : (o : Option PlainTyped) → IsKnown u o → IfOk (map_first f g h o) (IsUpdateOf types names u v w)
        by_map None e = chain (IsKnown v) (IsUpdateOf types names u v w) (key_first f h) (infer g) (infer_good v g q) by_key
        by_map (Some m) e = map_known_good m e.0 e.1 g h q r

  -- calls
  module _ (w : List ℕ) (f : Function) (is : function_named w ≡ Some f) where
    abbrev IsCall : SourceTerms → PlainTyped → Type 0
    IsCall us p = IsFound types names (call w tt us) p.tree p.shape

    by_function : (xs : List PlainShape) (s : PlainShape) → FunctionIs f xs s → CallIs names w xs s
    by_function xs s h = subst (λ o. CallBy o names w xs s) (sym is) h

    one_call : (k : Single) (us : SourceTerms) (fs : List Sorting) → arity_of f ≡ One k → AreGood us fs → IfOk (call_one w (callee.Function f) k fs) (IsCall us)
    unfolding call_one
    one_call k no_terms [] e g = tt
    one_call k no_terms (x ∷ fs) e g = absurd g
    one_call k (term u us) [] e g = tt
    one_call k (term u no_terms) (x ∷ []) e g =
        chain (IsPart types names k u) (IsCall (term u no_terms)) (λ t. Ok (typed (call w (callee.Function f) (term t.tree no_terms)) t.shape)) (one_part k x) (one_good k u x g.0)
        (λ t p. record {
          of = record {
            same = ap (λ a. call w tt (term a no_terms)) p.found.of.same;
            resolved = (is, (p.found.of.resolved, tt));
            has_shape = (p.part ∷ [], (p.found.of.has_shape, tt), by_function (p.part ∷ []) t.shape (one_is f k p.part t.shape e p.value));
            determined = ((p.found.of.determined, tt), rw (is, e, p.bare) refl);
          };
          declared = p.declared;
        })
    one_call k (term u no_terms) (x ∷ y ∷ fs) e g = tt
    one_call k (term u (term v us)) (x ∷ []) e g = absurd g.1
    one_call k (term u (term v us)) (x ∷ y ∷ fs) e g = tt

    two_call : (k : Pairing) (us : SourceTerms) (fs : List Sorting) → arity_of f ≡ Two k → AreGood us fs → IfOk (call_two w (callee.Function f) k fs) (IsCall us)
    unfolding call_two
    two_call k us [] e g = tt
    two_call k us (x ∷ []) e g = tt
    two_call k (term u (term v no_terms)) (x ∷ y ∷ []) e g =
        chain (IsPairOf types names k u v) (IsCall (term u (term v no_terms))) (λ p. Ok (typed (call w (callee.Function f) (term p.left (term p.right no_terms))) p.whole)) (two_parts k x y) (two_good k u v x y g.0 g.1.0)
        (λ p q. record {
          of = record {
            same = λ i. call w tt (term (q.first.of.same i) (term (q.second.of.same i) no_terms));
            resolved = (is, (q.first.of.resolved, (q.second.of.resolved, tt)));
            has_shape = (q.x ∷ q.y ∷ [], (q.first.of.has_shape, (q.second.of.has_shape, tt)), by_function (q.x ∷ q.y ∷ []) p.whole (by_rule p q q.rule));
            determined = ((q.first.of.determined, (q.second.of.determined, tt)), rw (is, e) q.told);
          };
          declared = q.declared;
        })
      where
        by_rule : (p : PlainPair) (q : IsPairOf types names k u v p) → (other_of_left k q.x ≡ Ok (Some (sides q.y p.whole))) ⊎ (other_of_right k q.y ≡ Ok (sides q.x p.whole)) → FunctionIs f (q.x ∷ q.y ∷ []) p.whole
        by_rule p q (inl h) = two_left_is f k q.x q.y p.whole e h
        by_rule p q (inr h) = two_right_is f k q.x q.y p.whole e h
    two_call k no_terms (x ∷ y ∷ []) e g = absurd g
    two_call k (term u no_terms) (x ∷ y ∷ []) e g = absurd g.1
    two_call k (term u (term v (term a us))) (x ∷ y ∷ []) e g = absurd g.1.1
    two_call k us (x ∷ y ∷ z ∷ fs) e g = tt

    three_call : (us : SourceTerms) (fs : List Sorting) → arity_of f ≡ Update → AreGood us fs → IfOk (call_three w (callee.Function f) fs) (IsCall us)
    unfolding call_three
    three_call us [] e g = tt
    three_call us (x ∷ []) e g = tt
    three_call us (x ∷ y ∷ []) e g = tt
    three_call (term u (term v (term a no_terms))) (x ∷ y ∷ z ∷ []) e g =
        chain (IsUpdateOf types names u v a) (IsCall (term u (term v (term a no_terms)))) (λ p. Ok (typed (call w (callee.Function f) (term p.map (term p.key (term p.value no_terms)))) p.whole)) (three_parts x y z) (three_good u v a x y z g.0 g.1.0 g.1.1.0)
        (λ p q. record {
          of = record {
            same = λ i. call w tt (term (q.first.of.same i) (term (q.second.of.same i) (term (q.third.of.same i) no_terms)));
            resolved = (is, (q.first.of.resolved, (q.second.of.resolved, (q.third.of.resolved, tt))));
            has_shape = (p.whole ∷ q.keys ∷ q.values ∷ [], (q.first.of.has_shape, (q.second.of.has_shape, (q.third.of.has_shape, tt))), by_function (p.whole ∷ q.keys ∷ q.values ∷ []) p.whole (subst (λ m. FunctionIs f (m ∷ q.keys ∷ q.values ∷ []) m) (sym q.whole) (update_is f q.keys q.values e)));
            determined = ((q.first.of.determined, (q.second.of.determined, (q.third.of.determined, tt))), rw (is, e) q.told);
          };
          declared = q.first.declared;
        })
    three_call no_terms (x ∷ y ∷ z ∷ []) e g = absurd g
    three_call (term u no_terms) (x ∷ y ∷ z ∷ []) e g = absurd g.1
    three_call (term u (term v no_terms)) (x ∷ y ∷ z ∷ []) e g = absurd g.1.1
    three_call (term u (term v (term a (term b us)))) (x ∷ y ∷ z ∷ []) e g = absurd g.1.1.1
    three_call us (x ∷ y ∷ z ∷ a ∷ fs) e g = tt

    arity_call : (k : Arity) (us : SourceTerms) (fs : List Sorting) → arity_of f ≡ k → AreGood us fs → IfOk (call_of_arity w (callee.Function f) fs k) (IsCall us)
    unfolding call_of_arity
    arity_call (One k) us fs e g = one_call k us fs e g
    arity_call (Two k) us fs e g = two_call k us fs e g
    arity_call Update us fs e g = three_call us fs e g

  -- a call of `inbox`
  module _ (w : List ℕ) (none : function_named w ≡ None) (is : is_inbox_word w ≡ true) where
    abbrev IsInbox : SourceTerms → PlainTyped → Type 0
    IsInbox us p = IsFound types names (call w tt us) p.tree p.shape

    inbox_of_good : (at : ℕ) → slot_in (Word inboxes_word) (map (λ n. n.0) names) ≡ Some at → (us : SourceTerms) (fs : List Sorting) (e : PlainSides) → AreGood us fs → AreBoth types e → option_map shape_in_terms (shape_named (Word inboxes_word) names) ≡ Some (maps e.other e.whole) → IfOk (inbox_of w (callee.Inboxes at) fs e) (IsInbox us)
    unfolding inbox_of
    inbox_of_good at stands us [] e g d h = tt
    inbox_of_good at stands no_terms (x ∷ fs) e g d h = absurd g
    inbox_of_good at stands (term u no_terms) (x ∷ []) e g d h =
        chain (λ t. IsFound types names u t e.other) (IsInbox (term u no_terms)) (λ t. Ok (typed (call w (callee.Inboxes at) (term t no_terms)) e.whole)) (fit x e.other) (fit_good u x e.other g.0 d.0)
        (λ t p. record {
          of = record {
            same = ap (λ a. call w tt (term a no_terms)) p.of.same;
            resolved = ((none, is, stands), (p.of.resolved, tt));
            has_shape = (e.other ∷ [], (p.of.has_shape, tt), subst (λ o. CallBy o names w (e.other ∷ []) e.whole) (sym none) (e.other, is, refl, h));
            determined = ((p.of.determined, tt), rw none refl);
          };
          declared = d.1;
        })
    inbox_of_good at stands (term u (term v us)) (x ∷ []) e g d h = absurd g.1
    inbox_of_good at stands us (x ∷ y ∷ fs) e g d h = tt

    inbox_good : (us : SourceTerms) (fs : List Sorting) → AreGood us fs → (o : Option (ℕ × PlainShape)) → IsDeclaredIf types names (Word inboxes_word) o → IfOk (inbox_known w fs (option_map (λ p. (p.0, shape_in_terms p.1)) o)) (IsInbox us)
    inbox_good us fs g None k = tt
    inbox_good us fs g (Some m) k =
        chain (λ e. AreBoth types e × (shape_in_terms m.1 ≡ maps e.other e.whole)) (IsInbox us) (inbox_of w (callee.Inboxes m.0) fs) (entry_of (shape_in_terms m.1)) (entry_declared types (shape_in_terms m.1) (in_terms types m.1 k.declared))
        (λ e d. inbox_of_good m.0 k.slot us fs e g d.0 (ap (option_map shape_in_terms) k.shape ∙ ap (λ s. Some s) d.1))

  none_call : (w : List ℕ) (us : SourceTerms) (fs : List Sorting) → AreAllDeclared types names → AreGood us fs → function_named w ≡ None → (b : Bool) → is_inbox_word w ≡ b → IfOk (if b then inbox_known w fs (named (Word inboxes_word) names) else Err Unknown) (λ p. IsFound types names (call w tt us) p.tree p.shape)
  none_call w us fs d g none true e = inbox_good w none e us fs g (declared_at (Word inboxes_word) names) (declared_is types names (Word inboxes_word) d)
  none_call w us fs d g none false e = tt

  called_by_none : (w : List ℕ) (us : SourceTerms) (fs : List Sorting) → AreAllDeclared types names → AreGood us fs → function_named w ≡ None → IfOk (call_of_none names w fs) (λ p. IsFound types names (call w tt us) p.tree p.shape)
  unfolding call_of_none
  called_by_none w us fs d g none = none_call w us fs d g none (is_inbox_word w) refl

  named_call : (w : List ℕ) (us : SourceTerms) (fs : List Sorting) → AreAllDeclared types names → AreGood us fs → (o : Option Function) → function_named w ≡ o → IfOk (call_of_function names w fs o) (λ p. IsFound types names (call w tt us) p.tree p.shape)
  named_call w us fs d g None e = called_by_none w us fs d g e
  named_call w us fs d g (Some f) e = arity_call w f e (arity_of f) us fs refl g

  -- displays
  abbrev AllAre : PlainShape → List PlainShape → Type 0
  AllAre s ss = AllByRecursion (λ y. y ≡ s) ss

  all_good : (s : PlainShape) (us : SourceTerms) (fs : List Sorting) → AreGood us fs → IsDeclared types s → IfOk (all_fit fs s) (λ ts. (ss : List PlainShape) × AreFound types names us ts ss × AllAre s ss)
  all_good s no_terms [] g d = ([], record { same = refl; resolved = tt; shapes = tt; determined = tt }, tt)
  all_good s no_terms (f ∷ fs) g d = absurd g
  all_good s (term u us) [] g d = absurd g
  all_good s (term u us) (f ∷ fs) g d =
      chain (λ t. IsFound types names u t s) (λ ts. (ss : List PlainShape) × AreFound types names (term u us) ts ss × AllAre s ss) (λ t. and_then (all_fit fs s) (λ ts. Ok (t ∷ ts))) (fit f s) (fit_good u f s g.0 d)
      (λ t p. chain (λ ts. (ss : List PlainShape) × AreFound types names us ts ss × AllAre s ss) (λ ts. (ss : List PlainShape) × AreFound types names (term u us) ts ss × AllAre s ss) (λ ts. Ok (t ∷ ts)) (all_fit fs s) (all_good s us fs g.1 d)
      (λ ts q. (
        s ∷ q.0,
        record {
          same = λ i. term (p.of.same i) (q.1.same i);
          resolved = (p.of.resolved, q.1.resolved);
          shapes = (p.of.has_shape, q.1.shapes);
          determined = (p.of.determined, q.1.determined);
        },
        (refl, q.2),
      )))

  each_good : (ss : List PlainShape) (us : SourceTerms) (fs : List Sorting) → AreGood us fs → AllByRecursion (IsDeclared types) ss → IfOk (each_fit fs ss) (λ ts. AreFound types names us ts ss)
  each_good [] no_terms [] g d = record { same = refl; resolved = tt; shapes = tt; determined = tt }
  each_good (s ∷ ss) no_terms [] g d = tt
  each_good ss no_terms (f ∷ fs) g d = absurd g
  each_good ss (term u us) [] g d = absurd g
  each_good [] (term u us) (f ∷ fs) g d = tt
  each_good (s ∷ ss) (term u us) (f ∷ fs) g d =
      chain (λ t. IsFound types names u t s) (λ ts. AreFound types names (term u us) ts (s ∷ ss)) (λ t. and_then (each_fit fs ss) (λ ts. Ok (t ∷ ts))) (fit f s) (fit_good u f s g.0 d.0)
      (λ t p. chain (λ ts. AreFound types names us ts ss) (λ ts. AreFound types names (term u us) ts (s ∷ ss)) (λ ts. Ok (t ∷ ts)) (each_fit fs ss) (each_good ss us fs g.1 d.1)
      (λ ts q. record {
        same = λ i. term (p.of.same i) (q.same i);
        resolved = (p.of.resolved, q.resolved);
        shapes = (p.of.has_shape, q.shapes);
        determined = (p.of.determined, q.determined);
      }))

  -- the parts of a display at a shape
  abbrev AreParts : DisplayForm → PlainShape → SourceTerms → List SortedTerm → Type 0
  AreParts form s us ts = (ss : List PlainShape) × AreFound types names us ts ss × DisplayIs form ss s

  parts_good : (form : DisplayForm) (s : PlainShape) (us : SourceTerms) (fs : List Sorting) → AreGood us fs → IsDeclared types s → IfOk (display_parts form fs s) (AreParts form s us)
  unfolding display_parts
  parts_good Braces truths us fs g d = tt
  parts_good Braces integers us fs g d = tt
  parts_good Braces naturals us fs g d = tt
  parts_good Braces (constants w k n) us fs g d = tt
  parts_good Braces (tuples w ns ss) us fs g d = tt
  parts_good Braces (sequences s) us fs g d = all_good s us fs g d
  parts_good Braces (sets s) us fs g d = all_good s us fs g d
  parts_good Braces (maps k v) us fs g d = kept (each_fit fs []) (each_good [] us fs g tt)
    where
      kept : (r : Result (List SortedTerm) Refusal) → IfOk r (λ ts. AreFound types names us ts []) → IfOk r (AreParts Braces (maps k v) us)
      kept (Ok ts) h = ([], h, refl)
      kept (Err e) h = tt
  parts_good Brackets truths us fs g d = tt
  parts_good Brackets integers us fs g d = tt
  parts_good Brackets naturals us fs g d = tt
  parts_good Brackets (constants w k n) us fs g d = tt
  parts_good Brackets (tuples w ns ss) us fs g d = kept (each_fit fs (map shape_in_terms (listed_shapes ss))) (each_good (map shape_in_terms (listed_shapes ss)) us fs g (listed types ss d.1))
    where
      kept : (r : Result (List SortedTerm) Refusal) → IfOk r (λ ts. AreFound types names us ts (map shape_in_terms (listed_shapes ss))) → IfOk r (AreParts Brackets (tuples w ns ss) us)
      kept (Ok ts) h = (map shape_in_terms (listed_shapes ss), h, refl)
      kept (Err e) h = tt
  parts_good Brackets (sequences s) us fs g d = tt
  parts_good Brackets (sets s) us fs g d = tt
  parts_good Brackets (maps k v) us fs g d = tt

  display_good : (form : DisplayForm) (us : SourceTerms) (fs : List Sorting) → AreGood us fs → Good (display form tt us) (given (display_at form fs))
  display_good form us fs g = (
    refl,
    λ s d. chain (AreParts form s us) (λ t. IsFound types names (display form tt us) t s) (λ ts. Ok (display form s (terms_of ts))) (display_parts form fs s) (parts_good form s us fs g d)
        (λ ts p. record {
          of = record {
            same = ap (display form tt) p.1.same;
            resolved = p.1.resolved;
            has_shape = (p.0, refl, p.1.shapes, p.2);
            determined = p.1.determined;
          };
          declared = d;
        }),
  )

  -- fields
  field_good : (w : List ℕ) (u : SourceTerm) (f : Sorting) → Good u f → Good (field u w tt) (own (and_then (infer f) (field_known w)))
  unfolding field_known
  field_good w u f g = (refl, chain (IsKnown u) (λ p. IsFound types names (field u w tt) p.tree p.shape) (field_known w) (infer f) (infer_good u f g) by_whole)
    where
      by_value : (t : PlainTyped) → (is_display u ≡ false) → IsFound types names u t.tree t.shape → (r : Result PlainShape Refusal) → value_of_field w t.shape ≡ r → IfOk r (IsDeclared types) → IfOk (and_then r (λ s. Ok (typed (field t.tree w t.shape) s))) (λ p. IsFound types names (field u w tt) p.tree p.shape)
      by_value t bare h (Err x) e d = tt
      by_value t bare h (Ok s) e d = record {
        of = record {
          same = ap (λ a. field a w tt) h.of.same;
          resolved = h.of.resolved;
          has_shape = (h.of.has_shape, field_is w t.shape s e);
          determined = (h.of.determined, bare);
        };
        declared = d;
      }

      by_whole : (o : Option PlainTyped) → IsKnown u o → IfOk (field_known w o) (λ p. IsFound types names (field u w tt) p.tree p.shape)
      by_whole None h = tt
      by_whole (Some t) h = by_value t h.0 h.1 (value_of_field w t.shape) refl (field_declared types w t.shape h.1.declared)

  -- names
  name_good : (x : Name) (o : Option (ℕ × PlainShape)) → IsDeclaredIf types names x o → IfOk (name_known x (option_map (λ p. (p.0, shape_in_terms p.1)) o)) (λ p. IsFound types names (name x tt) p.tree p.shape)
  name_good x None h = tt
  name_good x (Some p) h = record {
    of = record { same = refl; resolved = h.slot; has_shape = rw h.shape refl; determined = tt };
    declared = in_terms types p.1 h.declared;
  }

  module _ (declared : AreAllDeclared types names) where
    mutual
      pub good : (u : SourceTerm) → Good u (sorting names u)
      good (number n) = (refl, record { of = record { same = refl; resolved = tt; has_shape = refl; determined = tt }; declared = tt })
      good (truth b) = (refl, record { of = record { same = refl; resolved = tt; has_shape = refl; determined = tt }; declared = tt })
      good (name x tt) = (refl, name_good x (declared_at x names) (declared_is types names x declared))
      good (one op a) = (
        refl,
        chain (IsPart types names (single_of op) a) (λ p. IsFound types names (one op a) p.tree p.shape) (λ t. Ok (typed (one op t.tree) t.shape)) (one_part (single_of op) (sorting names a)) (one_good (single_of op) a (sorting names a) (good a))
            (λ t p. record {
              of = record {
                same = ap (one op) p.found.of.same;
                resolved = p.found.of.resolved;
                has_shape = (p.part, p.found.of.has_shape, unary_is op p.part t.shape p.value);
                determined = (p.found.of.determined, p.bare);
              };
              declared = p.declared;
            }),
      )
      good (two op a b) = (
        refl,
        chain (IsPairOf types names (pairing_of op) a b) (λ p. IsFound types names (two op a b) p.tree p.shape) (λ p. Ok (typed (two op p.left p.right) p.whole)) (two_parts (pairing_of op) (sorting names a) (sorting names b)) (two_good (pairing_of op) a b (sorting names a) (sorting names b) (good a) (good b))
            (λ p q. record {
              of = record {
                same = λ i. two op (q.first.of.same i) (q.second.of.same i);
                resolved = (q.first.of.resolved, q.second.of.resolved);
                has_shape = (q.x, q.y, q.first.of.has_shape, q.second.of.has_shape, binary_rule op q.x q.y p.whole q.rule);
                determined = (q.first.of.determined, q.second.of.determined, q.told);
              };
              declared = q.declared;
            }),
      )
      good (call w tt ts) = (refl, named_call w ts (sortings names ts) declared (goods ts) (function_named w) refl)
      good (display form tt ts) = display_good form ts (sortings names ts) (goods ts)
      good (field a w tt) = field_good w a (sorting names a) (good a)

      goods : (us : SourceTerms) → AreGood us (sortings names us)
      goods no_terms = tt
      goods (term u us) = (good u, goods us)

    pub fit_found : (u : SourceTerm) (s : PlainShape) → IsDeclared types s → IfOk (fit (sorting names u) s) (λ t. IsFound types names u t s)
    fit_found u s d = fit_good u (sorting names u) s (good u) d

    -- the laws
    pub own_sound : (u : SourceTerm) (t : SortedTerm) (s : PlainShape) → own_is t s ≡ infer (sorting names u) → IsTermOf names u t s
    own_sound u t s e = by_found (subst (λ r. IfOk r (IsKnown u)) (sym e) (infer_good u (sorting names u) (good u)))
      where
        by_found : IsKnown u (Some (typed t s)) → IsTermOf names u t s
        by_found h = h.1.of

    pub own_declared : (u : SourceTerm) (t : SortedTerm) (s : PlainShape) → own_is t s ≡ infer (sorting names u) → IsDeclared types s
    own_declared u t s e = by_found (subst (λ r. IfOk r (IsKnown u)) (sym e) (infer_good u (sorting names u) (good u)))
      where
        by_found : IsKnown u (Some (typed t s)) → IsDeclared types s
        by_found h = h.1.declared

    pub own_bare : (u : SourceTerm) (t : SortedTerm) (s : PlainShape) → own_is t s ≡ infer (sorting names u) → is_display u ≡ false
    own_bare u t s e = by_found (subst (λ r. IfOk r (IsKnown u)) (sym e) (infer_good u (sorting names u) (good u)))
      where
        by_found : IsKnown u (Some (typed t s)) → is_display u ≡ false
        by_found h = h.0

    pub fit_sound : (u : SourceTerm) (s : PlainShape) → IsDeclared types s → (t : SortedTerm) → fit_is t ≡ fit (sorting names u) s → IsTermOf names u t s
    fit_sound u s d t e = by_found (subst (λ r. IfOk r (λ x. IsFound types names u x s)) (sym e) (fit_good u (sorting names u) s (good u) d))
      where
        by_found : IsFound types names u t s → IsTermOf names u t s
        by_found h = h.of
