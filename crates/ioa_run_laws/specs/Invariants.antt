-- What an invariant reads in a state of a system, and what its term is there (profile).
use Rattle.std.specs.Prelude.{◌≡◌, Bool, true, List, Some}
use Rattle.std.specs.List.{AllZip}
use Rattle.ioa_values.specs.Data.{Data, truth}
use Rattle.ioa_operators.specs.Shapes.{PlainShape, truths, has_shape}
use Rattle.ioa_terms.specs.Meaning.{value}
use Rattle.ioa_system.specs.Invariants.{InvariantParts, invariant_bindings}
use Rattle.ioa_system.specs.Systems.{SystemParts}
use Rattle.ioa_invariants.specs.ReadShapes.{reading_shape}
use Rattle.ioa_compose.specs.Readings.{readings}
use Rattle.ioa_compose.specs.declared.configuration.Conf.{Conf}
use Rattle.ioa_run_laws.specs.Parts.{HasShapeThroughout}

-- an invariant in a state
pub record IsWellRead (s : SystemParts) (cs : List Conf) (v : InvariantParts) : Type 0 where
  -- each name that it reads is there
  pub values : List Data
  pub there : readings v.readings cs ≡ Some values
  -- each has a declared shape: that of a node's state variable, or sequences of what a channel's receiver takes
  pub shapes : List PlainShape
  pub declared : AllZip (λ x t. reading_shape s.programs s.channels x ≡ Some t) v.readings shapes
  pub shaped : AllZip (λ t d. has_shape t d ≡ true) shapes values
  -- its term is a truth value throughout
  pub sorted : HasShapeThroughout (invariant_bindings v values) v.term truths
  -- so what it gives, if anything, is a truth value
  pub truth : (d : Data) → value v.term (invariant_bindings v values) ≡ Some d → (b : Bool) × (d ≡ truth b)
