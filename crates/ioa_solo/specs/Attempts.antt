-- What it comes to that a node fires an action, in a run by one worker (profile).
use Rattle.std.specs.Prelude.{ℕ, ℤ, nat_lt, if◌then◌else◌, List, length}
use Rattle.std.specs.Prelude.{Option, Some, None, Result, Ok, Err}
use Rattle.std.specs.Ordering.{int_eq}
use Rattle.ioa_actions.specs.ActionParts.{node_of}
use Rattle.ioa_actions.specs.declared.action.Action.{Action}
use Rattle.ioa_actions.specs.declared.fault.StepFault.{StepFault}
use Rattle.ioa_transitions.specs.Entries.{PlainEntry}
use Rattle.ioa_compose.specs.declared.configuration.Conf.{Conf}
use Rattle.ioa_compose.specs.Composition.{joint_pick}
use Rattle.ioa_record.specs.declared.ending.NodeFault.{NodeFault}
use Rattle.ioa_record.specs.declared.ending.NodeFault.TheVariants.{NotMine, Full}
use Rattle.ioa_turns.specs.Faults.{fault_of_step}

-- what a fire comes to, if it meets no fault: the action is missed, or a step by it is taken, which has this entry and
-- leads to these configurations
pub data PlainFireOutcome : Type 0 where
  missed : PlainFireOutcome
  taken : PlainEntry → List Conf → PlainFireOutcome

-- an outcome, unless a fault ends the node
abbrev pub unless : {T : Type 0} → Option NodeFault → T → Result T NodeFault
unless None outcome = Ok outcome
unless (Some f) outcome = Err f

-- what a fire comes to by the joint step that is picked for it: an action that is not enabled is missed, any other
-- fault is the node's, and a step is taken if the schedule is shorter than the limit
abbrev pub step_outcome : ℕ → List PlainEntry → Result (PlainEntry × List Conf) StepFault
    → Result PlainFireOutcome NodeFault
step_outcome limit schedule (Ok t) = if nat_lt (length schedule) limit then Ok (taken t.0 t.1) else Err Full
step_outcome limit schedule (Err f) = unless (fault_of_step f) missed

-- what it comes to that node k fires an action: an action of another node is not the node's own
abbrev pub fire_answer : ℕ → List PlainEntry → List Conf → ℤ → Action → Result PlainFireOutcome NodeFault
fire_answer limit schedule states k a =
    if int_eq (node_of a) k then step_outcome limit schedule (joint_pick a states) else Err NotMine
