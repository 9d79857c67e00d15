-- A node that is met, by the configuration of its component.
use Rattle.std.proofs.Common.{◌≡◌, ◌≢◌, Bool, true, false, List, Option, Some, None, refl, sym}
use Rattle.ioa_actions.specs.declared.component.Component.TheVariants as component
use Rattle.ioa_channels.specs.Queues.{QueueState}
use Rattle.ioa_compose.specs.Composition.{find_conf}
use Rattle.ioa_compose.specs.declared.configuration.Conf.{Conf}
use Rattle.ioa_compose.specs.declared.configuration.Conf.TheVariants.{Node, Queue}
use Rattle.ioa_record.specs.declared.ending.Ending.TheVariants.{Fault}
use Rattle.ioa_record.specs.declared.ending.NodeFault.TheVariants.{Differs, Unknown}
use Rattle.ioa_system.specs.SameParts.{same_program, same_program_is}
use Rattle.ioa_transitions.specs.NodeState.{NodeState}
use Rattle.ioa_turns.specs.NodeTurns.{PlainProgress}
use Rattle.ioa_solo.specs.Meets.{met_in}

pub met_own : (cs : List Conf) (p : PlainProgress) (c : NodeState) → find_conf (component.Node p.program.node) cs ≡ Some (Node c) → c.program ≡ p.program → met_in cs p ≡ p
met_own cs p c shown same =
    let alike : same_program p.program c.program ≡ true = (same_program_is p.program c.program).1 (sym same) in
    rw (shown, alike) refl

pub met_other : (cs : List Conf) (p : PlainProgress) (c : NodeState) → find_conf (component.Node p.program.node) cs ≡ Some (Node c) → c.program ≢ p.program → met_in cs p ≡ record p { ending = Some (Fault Differs) }
met_other cs p c shown other = by_test (same_program p.program c.program) refl
  where
    by_test : (b : Bool) → same_program p.program c.program ≡ b → met_in cs p ≡ record p { ending = Some (Fault Differs) }
    by_test true e = absurd (other (sym ((same_program_is p.program c.program).0 e)))
    by_test false e = rw (shown, e) refl

pub met_queue : (cs : List Conf) (p : PlainProgress) (q : QueueState) → find_conf (component.Node p.program.node) cs ≡ Some (Queue q) → met_in cs p ≡ record p { ending = Some (Fault Differs) }
met_queue cs p q shown = rw shown refl

pub met_missing : (cs : List Conf) (p : PlainProgress) → find_conf (component.Node p.program.node) cs ≡ None → met_in cs p ≡ record p { ending = Some (Fault Unknown) }
met_missing cs p shown = rw shown refl
