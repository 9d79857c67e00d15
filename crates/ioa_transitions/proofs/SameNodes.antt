-- Configurations of nodes that the test finds the same are equal.
use Rattle.std.proofs.Common.{◌≡◌, refl, ap}
use Rattle.std.specs.Bool.{Decides}
use Rattle.std.proofs.lemmas.Bool.Decides.{Decides-and, Decides-like}
use Rattle.std.proofs.lemmas.Slice.Eq.{slice_eq-Decides}
use Rattle.ioa_values.proofs.Equality.{same_is}
use Rattle.ioa_system.specs.SameParts.{same_program_is}
use Rattle.ioa_transitions.specs.NodeState.{NodeState}
use Rattle.ioa_transitions.specs.SameNodes.{same_node}

-- the test finds two configurations of nodes the same if and only if they are equal
pub same_node_is : (c d : NodeState) → Decides (same_node c d) (c ≡ d)
same_node_is c d =
    Decides-like _ (λ p i. record { program = p.1 i; variables = p.0 i })
    (λ e. (ap (λ (s : NodeState). s.variables) e, ap (λ (s : NodeState). s.program) e))
    (Decides-and _ _ (slice_eq-Decides same_is c.variables d.variables _ refl) (same_program_is c.program d.program))
