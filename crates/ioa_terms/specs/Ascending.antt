-- Environments in whose values every set and every map, at any depth, ascends (profile).
use Rattle.std.specs.List.{AllByRecursion}
use Rattle.std.specs.Prelude.{List}
use Rattle.ioa_values.specs.Data.{Data}
use Rattle.ioa_values.specs.Canonical.{IsCanonical, AllCanonical}
use Rattle.ioa_terms.specs.Bindings.{Bindings}
use Rattle.ioa_terms.specs.Choices.{Source, given, yielded, Left}

-- each value is canonical, also one whose name an earlier pair has
abbrev pub IsAscendingEnvironment : Bindings → Type 0
IsAscendingEnvironment e = AllByRecursion (λ b. IsCanonical b.1) e

-- the values of choices, to be taken or made
abbrev pub source_values : Source → List Data
source_values (given vs) = vs
source_values (yielded vs) = vs

-- what is left is canonical
abbrev pub IsAscendingLeft : Left → Type 0
IsAscendingLeft l = IsAscendingEnvironment l.bindings × AllCanonical (source_values l.source)
