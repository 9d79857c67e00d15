-- The weight of two lists of items, and of two of entries (form).
use Rattle.std.specs.Prelude.{◌≡◌, ◌<◌, ◌+◌, List, [], ◌∷◌, ◌++◌, length}
use Rattle.std.proofs.Common.{arith}
use Rattle.ioa_values.specs.Data.{Data}
use Rattle.ioa_values.specs.Weight.{weights, pairs_weight}

pub weights-append : (ds es : List Data) → weights (ds ++ es) ≡ weights ds + weights es
weights-append [] es = omega arith
weights-append (d ∷ ds) es = omega (arith, weights-append ds es)

-- items weigh something
pub some-weigh : (ds : List Data) → 0 < length ds → 0 < weights ds
some-weigh [] h = h
some-weigh (d ∷ ds) h = omega arith

pub pairs-weight-append : (es fs : List (Data × Data)) → pairs_weight (es ++ fs) ≡ pairs_weight es + pairs_weight fs
pairs-weight-append [] fs = omega arith
pairs-weight-append (e ∷ es) fs = omega (arith, pairs-weight-append es fs)
