-- Shapes that the test finds the same are equal.
use Rattle.std.specs.Prelude.{◌≡◌, ◌↔◌, ℕ, true, List, IsTrue, refl, nat_eq}
use Rattle.std.specs.Cmp.{IsEquivalence, IsPartialEquivalence, decided, partial_equiv_from_equiv}
use lib.Pointwise.{pointwise}
use Rattle.std.specs.Bool.{Decides}
use Rattle.std.proofs.lemmas.Bool.{and_parts}
use Rattle.std.proofs.lemmas.Bool.Decides.{Decides-eqb}
use Rattle.std.proofs.lemmas.Slice.Eq.{slice_eq-Decides, bytes_eq-Decides}
use Rattle.ioa_operators.specs.Shapes.{PlainShape, truths, integers, naturals, constants, tuples, sequences}
use Rattle.ioa_operators.specs.Shapes.{sets, maps, PlainShapes, no_shapes, shape}
use Rattle.ioa_operators.specs.SameShapes.{same_shape, same_shapes}

words_is : (ns ms : List (List ℕ)) → Decides (pointwise (pointwise nat_eq) ns ms) (ns ≡ ms)
words_is ns ms = slice_eq-Decides bytes_eq-Decides ns ms _ refl

mutual
  pub shape_equal : (a b : PlainShape) → same_shape a b ≡ true → a ≡ b
  shape_equal truths truths h = refl
  shape_equal integers integers h = refl
  shape_equal naturals naturals h = refl
  shape_equal (constants w k m) (constants v l n) h =
      let p = and_parts _ _ h in
      let q = and_parts _ _ p.1 in
      λ i. constants ((bytes_eq-Decides w v).0 p.0 i) ((Decides-eqb k l).0 q.0 i) ((Decides-eqb m n).0 q.1 i)
  shape_equal (tuples w ns ss) (tuples v ms ts) h =
      let p = and_parts _ _ h in
      let q = and_parts _ _ p.1 in
      λ i. tuples ((bytes_eq-Decides w v).0 p.0 i) ((words_is ns ms).0 q.0 i) (shapes_equal ss ts q.1 i)
  shape_equal (sequences s) (sequences t) h = λ i. sequences (shape_equal s t h i)
  shape_equal (sets s) (sets t) h = λ i. sets (shape_equal s t h i)
  shape_equal (maps k v) (maps l w) h =
      let p = and_parts _ _ h in
      λ i. maps (shape_equal k l p.0 i) (shape_equal v w p.1 i)
  shape_equal a b h = absurd (cc)

  shapes_equal : (ss ts : PlainShapes) → same_shapes ss ts ≡ true → ss ≡ ts
  shapes_equal no_shapes no_shapes h = refl
  shapes_equal (shape s ss) (shape t ts) h =
      let p = and_parts _ _ h in
      λ i. shape (shape_equal s t p.0 i) (shapes_equal ss ts p.1 i)
  shapes_equal ss ts h = absurd (cc)

-- the test finds a shape the same as itself
mutual
  pub shape_itself : (a : PlainShape) → same_shape a a ≡ true
  shape_itself truths = refl
  shape_itself integers = refl
  shape_itself naturals = refl
  shape_itself (constants w k m) =
      rw ((bytes_eq-Decides w w).1 refl, (Decides-eqb k k).1 refl, (Decides-eqb m m).1 refl) refl
  shape_itself (tuples w ns ss) =
      rw ((bytes_eq-Decides w w).1 refl, (words_is ns ns).1 refl, shapes_itself ss) refl
  shape_itself (sequences s) = shape_itself s
  shape_itself (sets s) = shape_itself s
  shape_itself (maps k v) = rw (shape_itself k, shape_itself v) refl

  shapes_itself : (ss : PlainShapes) → same_shapes ss ss ≡ true
  shapes_itself no_shapes = refl
  shapes_itself (shape s ss) = rw (shape_itself s, shapes_itself ss) refl

-- the test finds two shapes the same if and only if they are equal
pub same_shape_is : (a b : PlainShape) → IsTrue (same_shape a b) ↔ (a ≡ b)
same_shape_is a b = (shape_equal a b, λ e. rw (← e) (shape_itself a))

pub same_shape_equivalence : IsEquivalence same_shape
same_shape_equivalence = decided same_shape same_shape_is

pub same_shape_partial : IsPartialEquivalence same_shape
same_shape_partial = partial_equiv_from_equiv same_shape_equivalence
