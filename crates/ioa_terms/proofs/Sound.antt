-- The value of a term has the term's shape.
use Rattle.std.proofs.Common.{◌≡◌, ℕ, List, [], ◌∷◌, Option, Some, None, refl, subst, true}
use Rattle.std.specs.Option.{IfSome, option_and_then, option_map, option_or}
use Rattle.ioa_values.specs.Data.{Data}
use Rattle.ioa_operators.specs.Operators.{unary_value, binary_value, left_decision, function_named}
use Rattle.ioa_operators.specs.Shapes.{PlainShape, maps, has_shape, display_value, field_value}
use Rattle.ioa_terms.specs.declared.name.Name.{Name}
use Rattle.ioa_terms.specs.declared.name.Name.TheVariants.{Word}
use Rattle.ioa_terms.specs.Bindings.{Bindings, lookup}
use Rattle.ioa_terms.specs.PlainTerm as plain
use Rattle.ioa_terms.specs.PlainTerm.{PlainTerm, PlainTerms, name, one, two, call, display, field, no_terms, term}
use Rattle.ioa_terms.specs.Meaning.{value, values, inbox_value, call_by, named_call_value}
use Rattle.ioa_terms.specs.Inboxes.{inboxes_word}
use Rattle.ioa_terms.specs.Sorted.{NameShapes, shape_named, shape_in_terms, at_key, CallBy, HasShape, HaveShapes, IsShaped}
use Rattle.ioa_terms.proofs.ShapesKept.{Has, HaveEach, shape_in_terms_has, unary_has, decision_has, binary_has, function_has, display_has, field_has}
use Rattle.ioa_operators.specs.declared.operator.BinaryOperator.TheVariants.{At}
use Rattle.ioa_operators.specs.declared.operator.Function.{Function}
use Rattle.ioa_operators.specs.declared.shape.Shape.{Shape}
use Rattle.ioa_operators.proofs.Holding.{map_holds, and_then_holds, or_holds}

each : (P : Data → Type 0) (o : Option Data) → ((v : Data) → o ≡ Some v → P v) → IfSome o P
each P None g = tt
each P (Some v) g = g v refl

-- what a name has
named_has : (names : NameShapes) (e : Bindings) → IsShaped names e → (x : Name) (s : PlainShape) (v : Data) (o : Option PlainShape) → shape_named x names ≡ o → option_map shape_in_terms o ≡ Some s → lookup x e ≡ Some v → Has s v
named_has names e g x s v (Some z) q h k =
    let f : shape_in_terms z ≡ s = cc in
    subst (λ (y : PlainShape). Has y v) f (shape_in_terms_has z v (g x z v q k))
named_has names e g x s v None q h k = absurd (cc)

-- what an inbox has
waiting_has : (names : NameShapes) (e : Bindings) → IsShaped names e → (k s : PlainShape) → option_map shape_in_terms (shape_named (Word inboxes_word) names) ≡ Some (maps k s) → (vs : List Data) → HaveEach (k ∷ []) vs → IfSome (inbox_value vs e) (Has s)
waiting_has names e g k s h [] has = tt
waiting_has names e g k s h (v ∷ []) has =
    and_then_holds (Has (maps k s)) (Has s) (λ d. binary_value At d v) (lookup (Word inboxes_word) e)
    (each (Has (maps k s)) (lookup (Word inboxes_word) e) (λ d l. named_has names e g (Word inboxes_word) (maps k s) d (shape_named (Word inboxes_word) names) refl h l))
    (λ d l. binary_has at_key d v l has.0)
waiting_has names e g k s h (v ∷ w ∷ vs) has = tt

-- what a call has
call_has : (names : NameShapes) (e : Bindings) → IsShaped names e → (o : Option Function) (w : List ℕ) (xs : List PlainShape) (s : PlainShape) → CallBy o names w xs s → (vs : List Data) → HaveEach xs vs → IfSome (call_by o w e vs) (Has s)
call_has names e g (Some f) w xs s h vs k = function_has h vs k
call_has names e g None w xs s h vs k = rw (h.1) (waiting_has names e g h.0 s h.3 vs (subst (λ ys. HaveEach ys vs) h.2 k))

mutual
  sound : {N C : Type 0} (names : NameShapes) (e : Bindings) → IsShaped names e → (t : PlainTerm N C Shape) (s : PlainShape) → HasShape names t s → IfSome (value t e) (Has s)
  sound names e g (plain.number n) s h = rw h refl
  sound names e g (plain.truth b) s h = rw h refl
  sound names e g (name x at) s h = each (Has s) (lookup x e) (λ v k. named_has names e g x s v (shape_named x names) refl h k)
  sound names e g (one op a) s h = and_then_holds (Has h.0) (Has s) (unary_value op) (value a e) (sound names e g a h.0 h.1) (λ v k. unary_has h.2 v)
  sound names e g (two op a b) s h =
      and_then_holds (Has h.0) (Has s) (λ v. option_or (left_decision op v) (option_and_then (binary_value op v) (value b e))) (value a e) (sound names e g a h.0 h.2)
      (λ v k. or_holds (Has s) (left_decision op v) (option_and_then (binary_value op v) (value b e)) (decision_has h.4 v)
      (and_then_holds (Has h.1) (Has s) (binary_value op v) (value b e) (sound names e g b h.1 h.3) (λ w l. binary_has h.4 v w k l)))
  sound names e g (call w c ts) s h =
      and_then_holds (HaveEach h.0) (Has s) (named_call_value w e) (values ts e) (all_sound names e g ts h.0 h.1) (call_has names e g (function_named w) w h.0 s h.2)
  sound names e g (display form d ts) s h =
      rw (h.1) (and_then_holds (HaveEach h.0) (Has d) (display_value form d) (values ts e) (all_sound names e g ts h.0 h.2) (λ vs k. display_has form d h.0 vs h.3 k))
  sound names e g (field a w d) s h =
      and_then_holds (Has d) (Has s) (field_value d w) (value a e) (sound names e g a d h.0) (λ v k. field_has d w s v h.1 k)

  all_sound : {N C : Type 0} (names : NameShapes) (e : Bindings) → IsShaped names e → (ts : PlainTerms N C Shape) (xs : List PlainShape) → HaveShapes names ts xs → IfSome (values ts e) (HaveEach xs)
  all_sound names e g no_terms [] h = tt
  all_sound names e g no_terms (x ∷ xs) h = absurd h
  all_sound names e g (term t more) [] h = absurd h
  all_sound names e g (term t more) (x ∷ xs) h =
      and_then_holds (Has x) (HaveEach (x ∷ xs)) (λ v. option_map (λ vs. v ∷ vs) (values more e)) (value t e) (sound names e g t x h.0)
      (λ v k. map_holds (HaveEach xs) (HaveEach (x ∷ xs)) (λ vs. v ∷ vs) (values more e) (all_sound names e g more xs h.1) (λ vs l. (k, l)))

-- the value of a term, if it has one, has the shape of the term
pub value_has : {N C : Type 0} (names : NameShapes) (e : Bindings) → IsShaped names e → (t : PlainTerm N C Shape) (s : PlainShape) → HasShape names t s → (v : Data) → value t e ≡ Some v → has_shape s v ≡ true
value_has names e g t s h v k = rw k at (sound names e g t s h)
