-- What is evaluated of a term has the shapes that the rules of sorts give its parts.
use Rattle.std.proofs.Common.{◌≡◌, ℕ, Bool, true, false, List, [], ◌∷◌, Option, Some, None, refl, sym, subst, map, if◌then◌else◌}
use Rattle.std.specs.Option.{IfSome, option_map}
use Rattle.ioa_values.specs.Data.{Data}
use Rattle.ioa_operators.specs.Operators.{function_named}
use Rattle.ioa_operators.specs.Shapes.{PlainShape, maps, has_shape}
use Rattle.ioa_operators.specs.declared.operator.Function.{Function}
use Rattle.ioa_operators.specs.declared.shape.Shape.{Shape}
use Rattle.ioa_terms.specs.declared.name.Name.{Name}
use Rattle.ioa_terms.specs.declared.name.Name.TheVariants.{Word}
use Rattle.ioa_terms.specs.Bindings.{Bindings, lookup, names_of, same_name}
use Rattle.ioa_terms.specs.Inboxes.{inboxes_word}
use Rattle.ioa_terms.specs.Meaning.{value}
use Rattle.ioa_terms.specs.PlainTerm as plain
use Rattle.ioa_terms.specs.PlainTerm.{PlainTerm, PlainTerms, name, one, two, call, display, field, no_terms, term}
use Rattle.ioa_terms.specs.Sorted.{NameShapes, HasShape, HaveShapes, IsShaped, CallBy, shape_named, shape_in_terms}
use Rattle.ioa_terms.proofs.ShapesKept.{shape_in_terms_has}
use Rattle.ioa_terms.proofs.Sound.{value_has}
use Rattle.ioa_run_laws.specs.Parts.{IsOfShape, HasValueOf, TakesParts, HasShapeThroughout, HaveShapesThroughout}

-- an environment has these names, each with a value of its shape
pub record HasValuesOf (names : NameShapes) (e : Bindings) : Type 0 where
  pub named : names_of e ≡ map (λ n. n.0) names
  pub shaped : IsShaped names e

-- a name that has a shape has a value, of that shape
found_value : (ns : NameShapes) (e : Bindings) (x : Name) (s : PlainShape) → names_of e ≡ map (λ n. n.0) ns → shape_named x ns ≡ Some s → (v : Data) × (lookup x e ≡ Some v)
found_value [] e x s h k = absurd (cc)
found_value (n ∷ ns) [] x s h k = absurd (cc)
found_value (n ∷ ns) (b ∷ e) x s h k =
    let first : b.0 ≡ n.0 = cc in
    let others : names_of e ≡ map (λ n. n.0) ns = cc in
    subst (λ (y : Name). (v : Data) × ((if same_name x y then Some b.1 else lookup x e) ≡ Some v)) (sym first)
    (by_same (same_name x n.0) k (λ found. found_value ns e x s others found))
  where
    by_same : (t : Bool) → (if t then Some n.1 else shape_named x ns) ≡ Some s → (shape_named x ns ≡ Some s → (v : Data) × (lookup x e ≡ Some v)) → (v : Data) × ((if t then Some b.1 else lookup x e) ≡ Some v)
    by_same true k further = (b.1, refl)
    by_same false k further = further k

pub declared_value : (names : NameShapes) (e : Bindings) → HasValuesOf names e → (x : Name) (s : PlainShape) → shape_named x names ≡ Some s → HasValueOf e x s
declared_value names e g x s h =
    let there = found_value names e x s g.named h in
    (there.0, there.1, g.shaped x s there.0 h there.1)

-- so it has one of its shape with integers for naturals
named_value : (names : NameShapes) (e : Bindings) → HasValuesOf names e → (x : Name) (s : PlainShape) → option_map shape_in_terms (shape_named x names) ≡ Some s → HasValueOf e x s
named_value names e g x s h = by_shape (shape_named x names) refl h
  where
    by_shape : (o : Option PlainShape) → shape_named x names ≡ o → option_map shape_in_terms o ≡ Some s → HasValueOf e x s
    by_shape None k h = absurd (cc)
    by_shape (Some z) k h =
        let there = declared_value names e g x z k in
        let same : shape_in_terms z ≡ s = cc in
        (there.0, there.1, subst (λ (y : PlainShape). has_shape y there.0 ≡ true) same (shape_in_terms_has z there.0 there.2))

-- what a call takes
parts_taken : (names : NameShapes) (e : Bindings) → HasValuesOf names e → (o : Option Function) (w : List ℕ) (xs : List PlainShape) (s : PlainShape) → CallBy o names w xs s → TakesParts o e w xs s
parts_taken names e g (Some f) w xs s h = h
parts_taken names e g None w xs s h = (h.0, h.1, h.2, named_value names e g (Word inboxes_word) (maps h.0 s) h.3)

each : (P : Data → Type 0) (o : Option Data) → ((v : Data) → o ≡ Some v → P v) → IfSome o P
each P None g = tt
each P (Some v) g = g v refl

valued : {N C : Type 0} (names : NameShapes) (e : Bindings) → HasValuesOf names e → (t : PlainTerm N C Shape) (s : PlainShape) → HasShape names t s → IsOfShape s (value t e)
valued names e g t s h = each (λ v. has_shape s v ≡ true) (value t e) (value_has names e g.shaped t s h)

mutual
  -- a term that has a shape by the shapes of the names has it throughout
  pub throughout : {N C : Type 0} (names : NameShapes) (e : Bindings) → HasValuesOf names e → (t : PlainTerm N C Shape) (s : PlainShape) → HasShape names t s → HasShapeThroughout e t s
  throughout names e g (plain.number n) s h = h
  throughout names e g (plain.truth b) s h = h
  throughout names e g (name x at) s h = named_value names e g x s h
  throughout names e g (one op a) s h = (h.0, throughout names e g a h.0 h.1, h.2, valued names e g (one op a) s h)
  throughout names e g (two op a b) s h = (h.0, h.1, throughout names e g a h.0 h.2, throughout names e g b h.1 h.3, h.4, valued names e g (two op a b) s h)
  throughout names e g (call w c ts) s h =
      (h.0, all_throughout names e g ts h.0 h.1, parts_taken names e g (function_named w) w h.0 s h.2, valued names e g (call w c ts) s h)
  throughout names e g (display form d ts) s h = (h.0, h.1, all_throughout names e g ts h.0 h.2, h.3, valued names e g (display form d ts) s h)
  throughout names e g (field a w d) s h = (throughout names e g a d h.0, h.1, valued names e g (field a w d) s h)

  all_throughout : {N C : Type 0} (names : NameShapes) (e : Bindings) → HasValuesOf names e → (ts : PlainTerms N C Shape) (xs : List PlainShape) → HaveShapes names ts xs → HaveShapesThroughout e ts xs
  all_throughout names e g no_terms [] h = tt
  all_throughout names e g no_terms (x ∷ xs) h = absurd h
  all_throughout names e g (term t more) [] h = absurd h
  all_throughout names e g (term t more) (x ∷ xs) h = (throughout names e g t x h.0, all_throughout names e g more xs h.1)
