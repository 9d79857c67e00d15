-- A term of a text with slots and shapes (profile): what the rules of sorts find, in words that know nothing of the
-- rules.
use Rattle.std.specs.Prelude.{◌≡◌, List, [], ◌∷◌, map}
use Rattle.ioa_operators.specs.Shapes.{PlainShape}
use Rattle.ioa_terms.specs.Resolved.{IsResolved}
use Rattle.ioa_terms.specs.Sorted.{NameShapes, HasShape, shape_in_terms}
use Rattle.ioa_source.specs.Erasure.{erase_term}
use Rattle.ioa_source.specs.Sides.{SourceTerm}
use Rattle.ioa_sorts.specs.Determined.{IsDetermined}
use Rattle.ioa_typed.specs.Parts.{SortedTerm}

-- the term is the text's, without slots and shapes; each name has its slot among the names in view; its value has the
-- shape, in which naturals count as integers
pub record IsTermOf (names : NameShapes) (source : SourceTerm) (found : SortedTerm) (s : PlainShape) : Type 0 where
  pub same : erase_term found ≡ source
  pub resolved : IsResolved found (map (λ n. n.0) names)
  pub has_shape : HasShape names found s
  pub determined : IsDetermined source

-- arguments, each of the shape at its position
abbrev pub AreArgumentsOf : NameShapes → List PlainShape → List SourceTerm → List SortedTerm → Type 0
AreArgumentsOf names [] [] [] = Unit {0}
AreArgumentsOf names [] [] (c ∷ cs) = ⊥
AreArgumentsOf names [] (t ∷ ts) cs = ⊥
AreArgumentsOf names (s ∷ ss) [] cs = ⊥
AreArgumentsOf names (s ∷ ss) (t ∷ ts) [] = ⊥
AreArgumentsOf names (s ∷ ss) (t ∷ ts) (c ∷ cs) =
    IsTermOf names t c (shape_in_terms s) × AreArgumentsOf names ss ts cs
