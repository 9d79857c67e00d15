-- A term that has a shape throughout: what it gives has the shape, and each part has one throughout.
use Rattle.std.proofs.Common.{◌≡◌, ℕ, List, [], ◌∷◌, None, refl}
use Rattle.std.specs.List.{AllByRecursion}
use Rattle.ioa_values.proofs.AllOf.{all_appended}
use Rattle.ioa_operators.specs.Shapes.{PlainShape, truths, integers}
use Rattle.ioa_operators.specs.declared.operator.BinaryOperator.TheVariants.{Plus}
use Rattle.ioa_operators.specs.declared.shape.Shape.{Shape}
use Rattle.ioa_terms.specs.declared.callee.Callee.{Callee}
use Rattle.ioa_terms.specs.Bindings.{Bindings}
use Rattle.ioa_terms.specs.Meaning.{value}
use Rattle.ioa_terms.specs.PlainTerm as plain
use Rattle.ioa_terms.specs.PlainTerm.{PlainTerm, PlainTerms, name, one, two, call, display, field, no_terms, term}
use Rattle.ioa_terms.specs.Sorted.{BinaryIs, sum}
use Rattle.ioa_run_laws.specs.Parts.{IsOfShape, HasShapeThroughout, HaveShapesThroughout, parts_of, all_parts_of, sum_of_truth}

-- what it gives
pub throughout_value : (e : Bindings) (t : PlainTerm ℕ Callee Shape) (s : PlainShape) → HasShapeThroughout e t s → IsOfShape s (value t e)
throughout_value e (plain.number n) s h = rw h refl
throughout_value e (plain.truth b) s h = rw h refl
throughout_value e (name x at) s h = rw h.1 (h.2)
throughout_value e (one op a) s h = h.3
throughout_value e (two op a b) s h = h.5
throughout_value e (call w c ts) s h = h.3
throughout_value e (display form d ts) s h = h.4
throughout_value e (field a w d) s h = h.2

-- its parts
abbrev IsPart : Bindings → PlainTerm ℕ Callee Shape → Type 0
IsPart e u = (z : PlainShape) × HasShapeThroughout e u z

mutual
  pub throughout_parts : (e : Bindings) (t : PlainTerm ℕ Callee Shape) (s : PlainShape) → HasShapeThroughout e t s → AllByRecursion (IsPart e) (parts_of t)
  throughout_parts e (plain.number n) s h = ((s, h), tt)
  throughout_parts e (plain.truth b) s h = ((s, h), tt)
  throughout_parts e (name x at) s h = ((s, h), tt)
  throughout_parts e (one op a) s h = ((s, h), throughout_parts e a h.0 h.1)
  throughout_parts e (two op a b) s h = ((s, h), all_appended (IsPart e) (parts_of a) (parts_of b) (throughout_parts e a h.0 h.2) (throughout_parts e b h.1 h.3))
  throughout_parts e (call w c ts) s h = ((s, h), all_throughout_parts e ts h.0 h.1)
  throughout_parts e (display form d ts) s h = ((s, h), all_throughout_parts e ts h.0 h.2)
  throughout_parts e (field a w d) s h = ((s, h), throughout_parts e a d h.0)

  all_throughout_parts : (e : Bindings) (ts : PlainTerms ℕ Callee Shape) (xs : List PlainShape) → HaveShapesThroughout e ts xs → AllByRecursion (IsPart e) (all_parts_of ts)
  all_throughout_parts e no_terms xs h = tt
  all_throughout_parts e (term t more) [] h = absurd h
  all_throughout_parts e (term t more) (x ∷ xs) h = all_appended (IsPart e) (parts_of t) (all_parts_of more) (throughout_parts e t x h.0) (all_throughout_parts e more xs h.1)

-- a sum takes numbers; that of a truth value has no value, and no shape throughout
sum_takes : {x y s : PlainShape} → BinaryIs Plus x y s → x ≡ integers
sum_takes sum = refl

no_shape : (e : Bindings) (s : PlainShape) → HasShapeThroughout e sum_of_truth s → ⊥
no_shape e s h =
    let one : h.0 ≡ truths = h.2 in
    let other : h.0 ≡ integers = sum_takes h.4 in
    cc

pub no_sum_of_truth : (e : Bindings) → (value sum_of_truth e ≡ None) × ((s : PlainShape) → HasShapeThroughout e sum_of_truth s → ⊥)
no_sum_of_truth e = (refl, no_shape e)
