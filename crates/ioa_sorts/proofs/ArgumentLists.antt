-- Arguments, each of the shape at its position, as parts that are fit one by one.
use Rattle.std.proofs.Common.{◌≡◌, List, [], ◌∷◌, Result, Ok, map, refl, ap}
use Rattle.ioa_values.specs.Outcome.{and_then}
use Rattle.ioa_operators.specs.Shapes.{PlainShape}
use Rattle.ioa_terms.specs.PlainTerm.{terms_of}
use Rattle.ioa_terms.specs.Sorted.{NameShapes, shape_in_terms}
use Rattle.ioa_source.specs.Sides.{SourceTerm, CheckedTerm}
use Rattle.ioa_refusals.specs.declared.refusal.Refusal.{Refusal}
use Rattle.ioa_sorts.specs.Sorting.{fit, each_fit, sorting, sortings}
use Rattle.ioa_sorts.specs.Firings.{arguments_at}

pub arguments_listed : (names : NameShapes) (ss : List PlainShape) (ts : List SourceTerm) → arguments_at names ss ts ≡ each_fit (sortings names (terms_of ts)) (map shape_in_terms ss)
arguments_listed names [] [] = refl
arguments_listed names [] (t ∷ ts) = refl
arguments_listed names (s ∷ ss) [] = refl
arguments_listed names (s ∷ ss) (t ∷ ts) =
    let with_rest : Result (List CheckedTerm) Refusal → Result (List CheckedTerm) Refusal = λ r. and_then (fit (sorting names t) (shape_in_terms s)) (λ c. and_then r (λ cs. Ok (c ∷ cs))) in
    ap with_rest (arguments_listed names ss ts)
