-- The rules refuse a display for want of a sort only in a term whose displays are not all determined.
use Rattle.std.proofs.Common.{◌≡◌, ℕ, Bool, true, false, List, [], ◌∷◌, Option, Some, None, Result, Ok, Err, map, refl, sym, subst, if◌then◌else◌}
use Rattle.ioa_values.specs.Outcome.{and_then}
use Rattle.ioa_operators.specs.Operators.{function_named}
use Rattle.ioa_operators.specs.Shapes.{PlainShape, truths, integers, naturals, constants, tuples, sequences, sets, maps}
use Rattle.ioa_operators.specs.declared.operator.Function.{Function}
use Rattle.ioa_operators.specs.declared.shape.DisplayForm.{DisplayForm}
use Rattle.ioa_operators.specs.declared.shape.DisplayForm.TheVariants.{Braces, Brackets}
use Rattle.ioa_terms.specs.declared.callee.Callee.{Callee}
use Rattle.ioa_terms.specs.declared.callee.Callee.TheVariants as callee
use Rattle.ioa_terms.specs.declared.name.Name.{Name}
use Rattle.ioa_terms.specs.declared.name.Name.TheVariants.{Word}
use Rattle.ioa_terms.specs.Inboxes.{inboxes_word}
use Rattle.ioa_terms.specs.Meaning.{is_inbox_word}
use Rattle.ioa_terms.specs.PlainTerm.{number, truth, name, one, two, call, display, field, no_terms, term, terms_of}
use Rattle.ioa_terms.specs.Sorted.{NameShapes, shape_in_terms, field_shape, listed_shapes}
use Rattle.ioa_source.specs.Sides.{SourceTerm, SourceTerms}
use Rattle.ioa_refusals.specs.declared.refusal.Refusal.{Refusal}
use Rattle.ioa_refusals.specs.declared.refusal.Refusal.TheVariants.{Unknown, Sorts, EmptyOfWhat}
use Rattle.ioa_sort_rules.specs.declared.kinds.Single.{Single}
use Rattle.ioa_sort_rules.specs.declared.kinds.Pairing.{Pairing}
use Rattle.ioa_sort_rules.specs.declared.kinds.Pairing.TheVariants.{Both, Membership, Prepend, Append, Members, At, Removal, Definition}
use Rattle.ioa_sort_rules.specs.declared.kinds.Arity.{Arity}
use Rattle.ioa_sort_rules.specs.declared.kinds.Arity.TheVariants.{One, Two, Update}
use Rattle.ioa_sort_rules.specs.Kinds.{single_of, pairing_of, arity_of}
use Rattle.ioa_sort_rules.specs.Rows.{PlainSides, sides, value_of_one, value_of_alike, other_of_left, other_of_right, entry_of, declared_field, value_of_field}
use Rattle.ioa_sort_rules.specs.SameSorts.{same_sort}
use Rattle.ioa_sort_rules.specs.declared.kinds.Single.TheVariants as single
use Rattle.ioa_sort_rules.specs.declared.kinds.Alike.{Alike}
use Rattle.ioa_sort_rules.specs.declared.kinds.Alike.TheVariants as alike
use Rattle.ioa_typed.specs.Parts.{PlainTyped, typed, pair, update, fit_typed, part_known, right_tells, field_known}
use Rattle.ioa_sorts.specs.Sorting.{Sorting, own, given, infer, fit, one_part, left_tells, left_known, right_known, right_first, left_first, two_parts, map_known, value_first, key_known, key_first, map_first, three_parts, call_one, call_two, call_three, inbox_of, inbox_known, call_of_none, call_of_arity, call_of_function, all_fit, each_fit, display_parts, name_known, sorting, sortings}
use Rattle.ioa_names.specs.Views.{named}
use Rattle.ioa_sorts.specs.Determined.{is_display, displays, tells, tells_update, tells_parts, tells_call, IsDetermined, AreDetermined}
use Rattle.ioa_sorts.proofs.Complete.{none_told}

-- a result is a value of a kind, or a refusal other than `EmptyOfWhat` (32)
abbrev pub Calmly : {A : Type 0} → (A → Type 0) → Result A Refusal → Type 0
Calmly P (Ok x) = P x
Calmly P (Err e) = e ≡ EmptyOfWhat → ⊥

abbrev pub Anything : {A : Type 0} → A → Type 0
Anything x = Unit {0}

pub calm_chain : {A B : Type 0} (P : A → Type 0) (Q : B → Type 0) (f : A → Result B Refusal) (r : Result A Refusal) → Calmly P r → ((x : A) → P x → Calmly Q (f x)) → Calmly Q (and_then r f)
calm_chain P Q f (Ok x) h g = g x h
calm_chain P Q f (Err e) h g = h

pub calm_end : {A B : Type 0} (P : A → Type 0) (f : A → B) (r : Result A Refusal) → Calmly P r → Calmly Anything (and_then r (λ x. Ok (f x)))
calm_end P f (Ok x) h = tt
calm_end P f (Err e) h = h

pub sorts_is_calm : Sorts ≡ EmptyOfWhat → ⊥
sorts_is_calm e = absurd (cc)

pub unknown_is_calm : Unknown ≡ EmptyOfWhat → ⊥
unknown_is_calm e = absurd (cc)

-- the rows
one_calm : (k : Single) (x : PlainShape) → Calmly Anything (value_of_one k x)
one_calm single.Truth truths = tt
one_calm single.Truth integers = sorts_is_calm
one_calm single.Truth naturals = sorts_is_calm
one_calm single.Truth (constants w k n) = sorts_is_calm
one_calm single.Truth (tuples w ns fs) = sorts_is_calm
one_calm single.Truth (sequences x) = sorts_is_calm
one_calm single.Truth (sets x) = sorts_is_calm
one_calm single.Truth (maps k v) = sorts_is_calm
one_calm single.Number truths = sorts_is_calm
one_calm single.Number integers = tt
one_calm single.Number naturals = sorts_is_calm
one_calm single.Number (constants w k n) = sorts_is_calm
one_calm single.Number (tuples w ns fs) = sorts_is_calm
one_calm single.Number (sequences x) = sorts_is_calm
one_calm single.Number (sets x) = sorts_is_calm
one_calm single.Number (maps k v) = sorts_is_calm
one_calm single.Item truths = sorts_is_calm
one_calm single.Item integers = sorts_is_calm
one_calm single.Item naturals = sorts_is_calm
one_calm single.Item (constants w k n) = sorts_is_calm
one_calm single.Item (tuples w ns fs) = sorts_is_calm
one_calm single.Item (sequences x) = tt
one_calm single.Item (sets x) = sorts_is_calm
one_calm single.Item (maps k v) = sorts_is_calm
one_calm single.Rest truths = sorts_is_calm
one_calm single.Rest integers = sorts_is_calm
one_calm single.Rest naturals = sorts_is_calm
one_calm single.Rest (constants w k n) = sorts_is_calm
one_calm single.Rest (tuples w ns fs) = sorts_is_calm
one_calm single.Rest (sequences x) = tt
one_calm single.Rest (sets x) = sorts_is_calm
one_calm single.Rest (maps k v) = sorts_is_calm
one_calm single.Length truths = sorts_is_calm
one_calm single.Length integers = sorts_is_calm
one_calm single.Length naturals = sorts_is_calm
one_calm single.Length (constants w k n) = sorts_is_calm
one_calm single.Length (tuples w ns fs) = sorts_is_calm
one_calm single.Length (sequences x) = tt
one_calm single.Length (sets x) = sorts_is_calm
one_calm single.Length (maps k v) = sorts_is_calm
one_calm single.Size truths = sorts_is_calm
one_calm single.Size integers = sorts_is_calm
one_calm single.Size naturals = sorts_is_calm
one_calm single.Size (constants w k n) = sorts_is_calm
one_calm single.Size (tuples w ns fs) = sorts_is_calm
one_calm single.Size (sequences x) = sorts_is_calm
one_calm single.Size (sets x) = tt
one_calm single.Size (maps k v) = tt

alike_calm : (k : Alike) (x : PlainShape) → Calmly Anything (value_of_alike k x)
alike_calm alike.Truths truths = tt
alike_calm alike.Truths integers = sorts_is_calm
alike_calm alike.Truths naturals = sorts_is_calm
alike_calm alike.Truths (constants w k n) = sorts_is_calm
alike_calm alike.Truths (tuples w ns fs) = sorts_is_calm
alike_calm alike.Truths (sequences x) = sorts_is_calm
alike_calm alike.Truths (sets x) = sorts_is_calm
alike_calm alike.Truths (maps k v) = sorts_is_calm
alike_calm alike.Numbers truths = sorts_is_calm
alike_calm alike.Numbers integers = tt
alike_calm alike.Numbers naturals = sorts_is_calm
alike_calm alike.Numbers (constants w k n) = sorts_is_calm
alike_calm alike.Numbers (tuples w ns fs) = sorts_is_calm
alike_calm alike.Numbers (sequences x) = sorts_is_calm
alike_calm alike.Numbers (sets x) = sorts_is_calm
alike_calm alike.Numbers (maps k v) = sorts_is_calm
alike_calm alike.Order truths = sorts_is_calm
alike_calm alike.Order integers = tt
alike_calm alike.Order naturals = sorts_is_calm
alike_calm alike.Order (constants w k n) = sorts_is_calm
alike_calm alike.Order (tuples w ns fs) = sorts_is_calm
alike_calm alike.Order (sequences x) = sorts_is_calm
alike_calm alike.Order (sets x) = sorts_is_calm
alike_calm alike.Order (maps k v) = sorts_is_calm
alike_calm alike.Equality truths = tt
alike_calm alike.Equality integers = tt
alike_calm alike.Equality naturals = tt
alike_calm alike.Equality (constants w k n) = tt
alike_calm alike.Equality (tuples w ns fs) = tt
alike_calm alike.Equality (sequences x) = tt
alike_calm alike.Equality (sets x) = tt
alike_calm alike.Equality (maps k v) = tt
alike_calm alike.Concatenation truths = sorts_is_calm
alike_calm alike.Concatenation integers = sorts_is_calm
alike_calm alike.Concatenation naturals = sorts_is_calm
alike_calm alike.Concatenation (constants w k n) = sorts_is_calm
alike_calm alike.Concatenation (tuples w ns fs) = sorts_is_calm
alike_calm alike.Concatenation (sequences x) = tt
alike_calm alike.Concatenation (sets x) = sorts_is_calm
alike_calm alike.Concatenation (maps k v) = sorts_is_calm
alike_calm alike.Union truths = sorts_is_calm
alike_calm alike.Union integers = sorts_is_calm
alike_calm alike.Union naturals = sorts_is_calm
alike_calm alike.Union (constants w k n) = sorts_is_calm
alike_calm alike.Union (tuples w ns fs) = sorts_is_calm
alike_calm alike.Union (sequences x) = sorts_is_calm
alike_calm alike.Union (sets x) = tt
alike_calm alike.Union (maps k v) = sorts_is_calm

-- the left part leaves it to the right one only at `\in`
abbrev Leaves : Pairing → Option PlainSides → Type 0
Leaves k None = k ≡ Membership
Leaves k (Some p) = Unit {0}

left_calm : (k : Pairing) (x : PlainShape) → Calmly (Leaves k) (other_of_left k x)
left_calm (Both k) x = calm_chain Anything (Leaves (Both k)) (λ w. Ok (Some (sides x w))) (value_of_alike k x) (alike_calm k x) (λ w h. tt)
left_calm Membership x = refl
left_calm Prepend x = tt
left_calm Members x = tt
left_calm Append truths = sorts_is_calm
left_calm Append integers = sorts_is_calm
left_calm Append naturals = sorts_is_calm
left_calm Append (constants w k n) = sorts_is_calm
left_calm Append (tuples w ns fs) = sorts_is_calm
left_calm Append (sequences x) = tt
left_calm Append (sets x) = sorts_is_calm
left_calm Append (maps k v) = sorts_is_calm
left_calm At truths = sorts_is_calm
left_calm At integers = sorts_is_calm
left_calm At naturals = sorts_is_calm
left_calm At (constants w k n) = sorts_is_calm
left_calm At (tuples w ns fs) = sorts_is_calm
left_calm At (sequences x) = sorts_is_calm
left_calm At (sets x) = sorts_is_calm
left_calm At (maps k v) = tt
left_calm Removal truths = sorts_is_calm
left_calm Removal integers = sorts_is_calm
left_calm Removal naturals = sorts_is_calm
left_calm Removal (constants w k n) = sorts_is_calm
left_calm Removal (tuples w ns fs) = sorts_is_calm
left_calm Removal (sequences x) = sorts_is_calm
left_calm Removal (sets x) = sorts_is_calm
left_calm Removal (maps k v) = tt
left_calm Definition truths = sorts_is_calm
left_calm Definition integers = sorts_is_calm
left_calm Definition naturals = sorts_is_calm
left_calm Definition (constants w k n) = sorts_is_calm
left_calm Definition (tuples w ns fs) = sorts_is_calm
left_calm Definition (sequences x) = sorts_is_calm
left_calm Definition (sets x) = sorts_is_calm
left_calm Definition (maps k v) = tt

right_calm : (k : Pairing) (x : PlainShape) → tells k true false ≡ true → Calmly Anything (other_of_right k x)
right_calm (Both k) x h = calm_end Anything (λ w. sides x w) (value_of_alike k x) (alike_calm k x)
right_calm Append x h = tt
right_calm At x h = absurd (cc)
right_calm Removal x h = absurd (cc)
right_calm Definition x h = absurd (cc)
right_calm Membership truths h = sorts_is_calm
right_calm Membership integers h = sorts_is_calm
right_calm Membership naturals h = sorts_is_calm
right_calm Membership (constants w k n) h = sorts_is_calm
right_calm Membership (tuples w ns fs) h = sorts_is_calm
right_calm Membership (sequences x) h = tt
right_calm Membership (sets x) h = tt
right_calm Membership (maps k v) h = sorts_is_calm
right_calm Prepend truths h = sorts_is_calm
right_calm Prepend integers h = sorts_is_calm
right_calm Prepend naturals h = sorts_is_calm
right_calm Prepend (constants w k n) h = sorts_is_calm
right_calm Prepend (tuples w ns fs) h = sorts_is_calm
right_calm Prepend (sequences x) h = tt
right_calm Prepend (sets x) h = sorts_is_calm
right_calm Prepend (maps k v) h = sorts_is_calm
right_calm Members truths h = sorts_is_calm
right_calm Members integers h = sorts_is_calm
right_calm Members naturals h = sorts_is_calm
right_calm Members (constants w k n) h = sorts_is_calm
right_calm Members (tuples w ns fs) h = sorts_is_calm
right_calm Members (sequences x) h = sorts_is_calm
right_calm Members (sets x) h = tt
right_calm Members (maps k v) h = sorts_is_calm

pub entry_calm : (x : PlainShape) → Calmly Anything (entry_of x)
entry_calm truths = sorts_is_calm
entry_calm integers = sorts_is_calm
entry_calm naturals = sorts_is_calm
entry_calm (constants w k n) = sorts_is_calm
entry_calm (tuples w ns fs) = sorts_is_calm
entry_calm (sequences x) = sorts_is_calm
entry_calm (sets x) = sorts_is_calm
entry_calm (maps k v) = tt

pub field_calm : (w : List ℕ) (x : PlainShape) → Calmly Anything (value_of_field w x)
field_calm w truths = sorts_is_calm
field_calm w integers = sorts_is_calm
field_calm w naturals = sorts_is_calm
field_calm w (constants v k n) = sorts_is_calm
field_calm w (tuples v ns fs) = by_field (field_shape w (tuples v ns fs))
  where
    by_field : (o : Option PlainShape) → Calmly Anything (declared_field o)
    by_field None = unknown_is_calm
    by_field (Some s) = tt
field_calm w (sequences x) = sorts_is_calm
field_calm w (sets x) = sorts_is_calm
field_calm w (maps k v) = sorts_is_calm

-- a sorting of a term whose displays are determined, by whether it is a display
abbrev pub Calm : Bool → Sorting → Type 0
Calm false (own r) = Calmly Anything r
Calm true (given f) = (s : PlainShape) → Calmly Anything (f s)
Calm b f = ⊥

-- what is known of such a term
abbrev Kind : Bool → Option PlainTyped → Type 0
Kind b None = b ≡ true
Kind b (Some t) = b ≡ false

infer_calm : (b : Bool) (f : Sorting) → Calm b f → Calmly (Kind b) (infer f)
infer_calm false (own r) h = calm_chain Anything (Kind false) (λ t. Ok (Some t)) r h (λ t p. refl)
infer_calm true (own r) h = absurd h
infer_calm false (given f) h = absurd h
infer_calm true (given f) h = refl

typed_calm : (s : PlainShape) (t : PlainTyped) → Calmly Anything (fit_typed s t)
unfolding fit_typed
typed_calm s t = by_test (same_sort t.shape s)
  where
    by_test : (b : Bool) → Calmly Anything (if b then Ok t.tree else Err Sorts)
    by_test true = tt
    by_test false = sorts_is_calm

fit_calm : (b : Bool) (f : Sorting) (s : PlainShape) → Calm b f → Calmly Anything (fit f s)
fit_calm false (own r) s h = calm_chain Anything Anything (fit_typed s) r h (λ t p. typed_calm s t)
fit_calm true (own r) s h = absurd h
fit_calm false (given f) s h = absurd h
fit_calm true (given f) s h = h s

-- forms of one part
part_calm : (k : Single) (o : Option PlainTyped) → Kind false o → Calmly Anything (part_known k o)
unfolding part_known
part_calm k None h = absurd (cc)
part_calm k (Some t) h = calm_end Anything (λ s. typed t.tree s) (value_of_one k t.shape) (one_calm k t.shape)

one_part_calm : (k : Single) (f : Sorting) → Calm false f → Calmly Anything (one_part k f)
one_part_calm k f h = calm_chain (Kind false) Anything (part_known k) (infer f) (infer_calm false f h) (part_calm k)

-- forms of two parts
right_tells_calm : (l : PlainTyped) (b : Bool) → tells Membership false b ≡ true → (o : Option PlainTyped) → Kind b o → Calmly Anything (right_tells Membership l o)
unfolding right_tells
right_tells_calm l b told None h = let e : tells Membership false true ≡ true = subst (λ c. tells Membership false c ≡ true) h told in absurd (cc)
right_tells_calm l b told (Some r) h = calm_chain Anything Anything (λ p. and_then (fit_typed p.other l) (λ t. Ok (pair t r.tree p.whole))) (other_of_right Membership r.shape) (right_calm Membership r.shape refl)
    (λ p q. calm_end Anything (λ t. pair t r.tree p.whole) (fit_typed p.other l) (typed_calm p.other l))

left_known_calm : (k : Pairing) (l : PlainTyped) (g : Sorting) (b : Bool) → tells k false b ≡ true → Calm b g → Calmly Anything (left_known k l g)
unfolding left_known
left_known_calm k l g b told h = calm_chain (Leaves k) Anything (left_tells k l g) (other_of_left k l.shape) (left_calm k l.shape) by_left
  where
    by_left : (o : Option PlainSides) → Leaves k o → Calmly Anything (left_tells k l g o)
    by_left (Some p) e = calm_end Anything (λ t. pair l.tree t p.whole) (fit g p.other) (fit_calm b g p.other h)
    by_left None e = subst (λ m. Calmly Anything (and_then (infer g) (right_tells m l))) (sym e)
        (calm_chain (Kind b) Anything (right_tells Membership l) (infer g) (infer_calm b g h) (right_tells_calm l b (subst (λ m. tells m false b ≡ true) e told)))

right_known_calm : (k : Pairing) (f : Sorting) (r : PlainTyped) → tells k true false ≡ true → Calm true f → Calmly Anything (right_known k f r)
unfolding right_known
right_known_calm k f r told h = calm_chain Anything Anything (λ p. and_then (fit f p.other) (λ t. Ok (pair t r.tree p.whole))) (other_of_right k r.shape) (right_calm k r.shape told)
    (λ p q. calm_end Anything (λ t. pair t r.tree p.whole) (fit f p.other) (fit_calm true f p.other h))

two_calm : (k : Pairing) (f g : Sorting) (a b : Bool) → tells k a b ≡ true → Calm a f → Calm b g → Calmly Anything (two_parts k f g)
two_calm k f g false b told p q = calm_chain (Kind false) Anything (left_first k f g) (infer f) (infer_calm false f p) by_left
  where
    by_left : (o : Option PlainTyped) → Kind false o → Calmly Anything (left_first k f g o)
    by_left None e = absurd (cc)
    by_left (Some l) e = left_known_calm k l g b told q
two_calm k f g true false told p q = calm_chain (Kind true) Anything (left_first k f g) (infer f) (infer_calm true f p) by_left
  where
    by_right : (o : Option PlainTyped) → Kind false o → Calmly Anything (right_first k f o)
    by_right None e = absurd (cc)
    by_right (Some r) e = right_known_calm k f r told p

    by_left : (o : Option PlainTyped) → Kind true o → Calmly Anything (left_first k f g o)
    by_left None e = calm_chain (Kind false) Anything (right_first k f) (infer g) (infer_calm false g q) by_right
    by_left (Some l) e = absurd (cc)
two_calm k f g true true told p q = let none = none_told k in absurd (cc)

-- `update`
map_known_calm : (m : PlainTyped) (g h : Sorting) (b c : Bool) → Calm b g → Calm c h → Calmly Anything (map_known m g h)
unfolding map_known
map_known_calm m g h b c p q = calm_chain Anything Anything (λ e. and_then (fit g e.other) (λ k. and_then (fit h e.whole) (λ v. Ok (update m.tree k v m.shape)))) (entry_of m.shape) (entry_calm m.shape)
    (λ e _. calm_chain Anything Anything (λ k. and_then (fit h e.whole) (λ v. Ok (update m.tree k v m.shape))) (fit g e.other) (fit_calm b g e.other p)
    (λ k _. calm_end Anything (λ v. update m.tree k v m.shape) (fit h e.whole) (fit_calm c h e.whole q)))

key_known_calm : (k : PlainTyped) (f h : Sorting) → Calm true f → Calm false h → Calmly Anything (key_known k f h)
unfolding key_known
key_known_calm k f h p q = calm_chain (Kind false) Anything (value_first k f) (infer h) (infer_calm false h q) by_value
  where
    by_value : (o : Option PlainTyped) → Kind false o → Calmly Anything (value_first k f o)
    by_value None e = absurd (cc)
    by_value (Some v) e = calm_end Anything (λ m. update m k.tree v.tree (maps k.shape v.shape)) (fit f (maps k.shape v.shape)) (fit_calm true f (maps k.shape v.shape) p)

three_calm : (f g h : Sorting) (a b c : Bool) → tells_update a b c ≡ true → Calm a f → Calm b g → Calm c h → Calmly Anything (three_parts f g h)
three_calm f g h false b c told p q r = calm_chain (Kind false) Anything (map_first f g h) (infer f) (infer_calm false f p) by_map
  where
    by_map : (o : Option PlainTyped) → Kind false o → Calmly Anything (map_first f g h o)
    by_map None e = absurd (cc)
    by_map (Some m) e = map_known_calm m g h b c q r
three_calm f g h true false false told p q r = calm_chain (Kind true) Anything (map_first f g h) (infer f) (infer_calm true f p) by_map
  where
    by_key : (o : Option PlainTyped) → Kind false o → Calmly Anything (key_first f h o)
    by_key None e = absurd (cc)
    by_key (Some k) e = key_known_calm k f h p r

    by_map : (o : Option PlainTyped) → Kind true o → Calmly Anything (map_first f g h o)
    by_map None e = calm_chain (Kind false) Anything (key_first f h) (infer g) (infer_calm false g q) by_key
    by_map (Some m) e = absurd (cc)
three_calm f g h true false true told p q r = absurd (cc)
three_calm f g h true true c told p q r = absurd (cc)

-- fields
field_known_calm : (w : List ℕ) (o : Option PlainTyped) → Kind false o → Calmly Anything (field_known w o)
unfolding field_known
field_known_calm w None h = absurd (cc)
field_known_calm w (Some t) h = calm_end Anything (λ s. typed (field t.tree w t.shape) s) (value_of_field w t.shape) (field_calm w t.shape)

name_calm : (x : Name) (o : Option (ℕ × PlainShape)) → Calmly Anything (name_known x o)
name_calm x None = unknown_is_calm
name_calm x (Some p) = tt

module _ (names : NameShapes) where
  abbrev AreCalm : SourceTerms → Type 0
  AreCalm no_terms = Unit {0}
  AreCalm (term u us) = Calm (is_display u) (sorting names u) × AreCalm us

  -- calls
  one_call_calm : (w : List ℕ) (c : Callee) (k : Single) (us : SourceTerms) → AreCalm us → tells_parts (One k) (displays us) ≡ true → Calmly Anything (call_one w c k (sortings names us))
  unfolding call_one
  one_call_calm w c k no_terms h told = sorts_is_calm
  one_call_calm w c k (term u no_terms) h told = by_open (is_display u) h.0 told
    where
      by_open : (b : Bool) → Calm b (sorting names u) → tells_parts (One k) (b ∷ []) ≡ true → Calmly Anything (and_then (one_part k (sorting names u)) (λ t. Ok (typed (call w c (term t.tree no_terms)) t.shape)))
      by_open true p e = absurd (cc)
      by_open false p e = calm_end Anything (λ t. typed (call w c (term t.tree no_terms)) t.shape) (one_part k (sorting names u)) (one_part_calm k (sorting names u) p)
  one_call_calm w c k (term u (term v us)) h told = sorts_is_calm

  two_call_calm : (w : List ℕ) (c : Callee) (k : Pairing) (us : SourceTerms) → AreCalm us → tells_parts (Two k) (displays us) ≡ true → Calmly Anything (call_two w c k (sortings names us))
  unfolding call_two
  two_call_calm w c k no_terms h told = sorts_is_calm
  two_call_calm w c k (term u no_terms) h told = sorts_is_calm
  two_call_calm w c k (term u (term v no_terms)) h told = calm_end Anything (λ p. typed (call w c (term p.left (term p.right no_terms))) p.whole) (two_parts k (sorting names u) (sorting names v)) (two_calm k (sorting names u) (sorting names v) (is_display u) (is_display v) told h.0 h.1.0)
  two_call_calm w c k (term u (term v (term x us))) h told = sorts_is_calm

  three_call_calm : (w : List ℕ) (c : Callee) (us : SourceTerms) → AreCalm us → tells_parts Update (displays us) ≡ true → Calmly Anything (call_three w c (sortings names us))
  unfolding call_three
  three_call_calm w c no_terms h told = sorts_is_calm
  three_call_calm w c (term u no_terms) h told = sorts_is_calm
  three_call_calm w c (term u (term v no_terms)) h told = sorts_is_calm
  three_call_calm w c (term u (term v (term x no_terms))) h told = calm_end Anything (λ p. typed (call w c (term p.map (term p.key (term p.value no_terms)))) p.whole) (three_parts (sorting names u) (sorting names v) (sorting names x)) (three_calm (sorting names u) (sorting names v) (sorting names x) (is_display u) (is_display v) (is_display x) told h.0 h.1.0 h.1.1.0)
  three_call_calm w c (term u (term v (term x (term y us)))) h told = sorts_is_calm

  arity_calm : (w : List ℕ) (c : Callee) (k : Arity) (us : SourceTerms) → AreCalm us → tells_parts k (displays us) ≡ true → Calmly Anything (call_of_arity w c (sortings names us) k)
  unfolding call_of_arity
  arity_calm w c (One k) us h told = one_call_calm w c k us h told
  arity_calm w c (Two k) us h told = two_call_calm w c k us h told
  arity_calm w c Update us h told = three_call_calm w c us h told

  -- a call of `inbox`
  inbox_of_calm : (w : List ℕ) (c : Callee) (us : SourceTerms) (e : PlainSides) → AreCalm us → Calmly Anything (inbox_of w c (sortings names us) e)
  unfolding inbox_of
  inbox_of_calm w c no_terms e h = sorts_is_calm
  inbox_of_calm w c (term u no_terms) e h = calm_end Anything (λ t. typed (call w c (term t no_terms)) e.whole) (fit (sorting names u) e.other) (fit_calm (is_display u) (sorting names u) e.other h.0)
  inbox_of_calm w c (term u (term v us)) e h = sorts_is_calm

  inbox_calm : (w : List ℕ) (us : SourceTerms) (o : Option (ℕ × PlainShape)) → AreCalm us → Calmly Anything (inbox_known w (sortings names us) o)
  inbox_calm w us None h = unknown_is_calm
  inbox_calm w us (Some m) h = calm_chain Anything Anything (inbox_of w (callee.Inboxes m.0) (sortings names us)) (entry_of m.1) (entry_calm m.1) (λ e _. inbox_of_calm w (callee.Inboxes m.0) us e h)

  none_calm : (w : List ℕ) (us : SourceTerms) → AreCalm us → (b : Bool) → Calmly Anything (if b then inbox_known w (sortings names us) (named (Word inboxes_word) names) else Err Unknown)
  none_calm w us h true = inbox_calm w us (named (Word inboxes_word) names) h
  none_calm w us h false = unknown_is_calm

  called_by_none_calm : (w : List ℕ) (us : SourceTerms) → AreCalm us → Calmly Anything (call_of_none names w (sortings names us))
  unfolding call_of_none
  called_by_none_calm w us h = none_calm w us h (is_inbox_word w)

  call_calm : (w : List ℕ) (us : SourceTerms) → AreCalm us → (o : Option Function) → tells_call o (displays us) ≡ true → Calmly Anything (call_of_function names w (sortings names us) o)
  call_calm w us h None told = called_by_none_calm w us h
  call_calm w us h (Some f) told = arity_calm w (callee.Function f) (arity_of f) us h told

  -- displays
  all_calm : (s : PlainShape) (us : SourceTerms) → AreCalm us → Calmly Anything (all_fit (sortings names us) s)
  all_calm s no_terms h = tt
  all_calm s (term u us) h = calm_chain Anything Anything (λ t. and_then (all_fit (sortings names us) s) (λ ts. Ok (t ∷ ts))) (fit (sorting names u) s) (fit_calm (is_display u) (sorting names u) s h.0)
      (λ t _. calm_end Anything (λ ts. t ∷ ts) (all_fit (sortings names us) s) (all_calm s us h.1))

  each_calm : (ss : List PlainShape) (us : SourceTerms) → AreCalm us → Calmly Anything (each_fit (sortings names us) ss)
  each_calm [] no_terms h = tt
  each_calm (s ∷ ss) no_terms h = sorts_is_calm
  each_calm [] (term u us) h = sorts_is_calm
  each_calm (s ∷ ss) (term u us) h = calm_chain Anything Anything (λ t. and_then (each_fit (sortings names us) ss) (λ ts. Ok (t ∷ ts))) (fit (sorting names u) s) (fit_calm (is_display u) (sorting names u) s h.0)
      (λ t _. calm_end Anything (λ ts. t ∷ ts) (each_fit (sortings names us) ss) (each_calm ss us h.1))

  parts_calm : (form : DisplayForm) (s : PlainShape) (us : SourceTerms) → AreCalm us → Calmly Anything (display_parts form (sortings names us) s)
  unfolding display_parts
  parts_calm Braces truths us h = sorts_is_calm
  parts_calm Braces integers us h = sorts_is_calm
  parts_calm Braces naturals us h = sorts_is_calm
  parts_calm Braces (constants w k n) us h = sorts_is_calm
  parts_calm Braces (tuples w ns fs) us h = sorts_is_calm
  parts_calm Braces (sequences x) us h = all_calm x us h
  parts_calm Braces (sets x) us h = all_calm x us h
  parts_calm Braces (maps k v) us h = each_calm [] us h
  parts_calm Brackets truths us h = sorts_is_calm
  parts_calm Brackets integers us h = sorts_is_calm
  parts_calm Brackets naturals us h = sorts_is_calm
  parts_calm Brackets (constants w k n) us h = sorts_is_calm
  parts_calm Brackets (tuples w ns fs) us h = each_calm (map shape_in_terms (listed_shapes fs)) us h
  parts_calm Brackets (sequences x) us h = sorts_is_calm
  parts_calm Brackets (sets x) us h = sorts_is_calm
  parts_calm Brackets (maps k v) us h = sorts_is_calm

  mutual
    pub calm : (u : SourceTerm) → IsDetermined u → Calm (is_display u) (sorting names u)
    calm (number n) d = tt
    calm (truth b) d = tt
    calm (name x at) d = name_calm x (named x names)
    calm (one op a) d = calm_end Anything (λ t. typed (one op t.tree) t.shape) (one_part (single_of op) (sorting names a)) (one_part_calm (single_of op) (sorting names a) (subst (λ b. Calm b (sorting names a)) d.1 (calm a d.0)))
    calm (two op a b) d = calm_end Anything (λ p. typed (two op p.left p.right) p.whole) (two_parts (pairing_of op) (sorting names a) (sorting names b)) (two_calm (pairing_of op) (sorting names a) (sorting names b) (is_display a) (is_display b) d.2 (calm a d.0) (calm b d.1))
    calm (call w c ts) d = call_calm w ts (each_is_calm ts d.0) (function_named w) d.1
    calm (display form e ts) d = λ s. calm_end Anything (λ us. display form s (terms_of us)) (display_parts form (sortings names ts) s) (parts_calm form s ts (each_is_calm ts d))
    calm (field a w e) d = calm_chain (Kind false) Anything (field_known w) (infer (sorting names a)) (infer_calm false (sorting names a) (subst (λ b. Calm b (sorting names a)) d.1 (calm a d.0))) (field_known_calm w)

    each_is_calm : (us : SourceTerms) → AreDetermined us → AreCalm us
    each_is_calm no_terms d = tt
    each_is_calm (term u us) d = (calm u d.0, each_is_calm us d.1)

  pub fit_is_calm : (u : SourceTerm) (s : PlainShape) → IsDetermined u → Calmly Anything (fit (sorting names u) s)
  fit_is_calm u s d = fit_calm (is_display u) (sorting names u) s (calm u d)

  -- the law
  pub told : {A : Type 0} (P : A → Type 0) (r : Result A Refusal) → Calmly P r → r ≡ Err EmptyOfWhat → ⊥
  told P (Ok x) h e = absurd (cc)
  told P (Err f) h e = let g : f ≡ EmptyOfWhat = cc in h g

  pub fit_told : (u : SourceTerm) (s : PlainShape) → IsDetermined u → fit (sorting names u) s ≡ Err EmptyOfWhat → ⊥
  fit_told u s d e = told Anything (fit (sorting names u) s) (fit_is_calm u s d) e

  pub infer_told : (u : SourceTerm) → IsDetermined u → infer (sorting names u) ≡ Err EmptyOfWhat → ⊥
  infer_told u d e = told (Kind (is_display u)) (infer (sorting names u)) (infer_calm (is_display u) (sorting names u) (calm u d)) e
