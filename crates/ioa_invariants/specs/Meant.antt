-- When a checked invariant is that of a text (profile), in words that know nothing of the order of refusals. A number
-- before a field is that of the refusals of a text for which the field cannot hold.
use Rattle.std.specs.Prelude.{◌≡◌, ◌++◌, false, List, Some}
use Rattle.std.specs.List.{AllZip, zip}
use Rattle.ioa_operators.specs.Shapes.{PlainShape, truths}
use Rattle.ioa_terms.specs.Sorted.{NameShapes}
use Rattle.ioa_source.specs.Sides.{SourceInvariant}
use Rattle.ioa_source.specs.declared.declaration.Channel.{Channel}
use Rattle.ioa_system.specs.Invariants.{InvariantParts}
use Rattle.ioa_system.specs.Parts.{Parts}
use Rattle.ioa_names.specs.NameTables.{words}
use Rattle.ioa_sorts.specs.SortedTerms.{IsTermOf}
use Rattle.ioa_invariants.specs.ReadNames.{calls_queue, names_in, once}
use Rattle.ioa_invariants.specs.ReadShapes.{reading_shape}

-- in a text of these constants, of nodes of these programs and of these channels
pub record IsInvariantOf (constants : NameShapes) (ps : List Parts) (cs : List Channel) (v : SourceInvariant)
    (found : InvariantParts) : Type 0 where
  pub name : found.name ≡ v.name
  pub constants_named : found.constants ≡ words constants
  -- 22: each `queue` has the numbers of two nodes
  pub queues : calls_queue v.term ≡ false
  -- it carries the names `x@k` and `queue(i, j)` that it reads, each once
  pub readings : found.readings ≡ once (names_in v.term)
  -- 20: there are such variables and channels
  pub shapes : List PlainShape
  pub there : AllZip (λ x s. reading_shape ps cs x ≡ Some s) found.readings shapes
  -- 20, 22, 32: with these names and the constants in view the term is a truth value
  pub term : IsTermOf (zip found.readings shapes ++ constants) v.term found.term truths
