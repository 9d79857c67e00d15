-- What the fault of a step and the refusal of a proposal come to for the node that fired (profile).
use Rattle.std.specs.Prelude.{Option, Some, None}
use Rattle.ioa_actions.specs.declared.fault.StepFault.{StepFault}
use Rattle.ioa_actions.specs.declared.fault.StepFault.TheVariants as step
use Rattle.ioa_commits.specs.declared.outcome.CommitRefusal.{CommitRefusal}
use Rattle.ioa_commits.specs.declared.outcome.CommitRefusal.TheVariants as refusal
use Rattle.ioa_record.specs.declared.ending.NodeFault.{NodeFault}
use Rattle.ioa_record.specs.declared.ending.NodeFault.TheVariants.{Undefined, Range, Memory, NotMine, NoChannel, NoChoice}
use Rattle.ioa_record.specs.declared.ending.NodeFault.TheVariants.{Differs, Full, Unknown}

-- the fault with which a fault of a step ends its node: an action that is not enabled is missed, and ends none
abbrev pub fault_of_step : StepFault → Option NodeFault
fault_of_step step.NotEnabled = None
fault_of_step step.Undefined = Some Undefined
fault_of_step step.Range = Some Range
fault_of_step step.Memory = Some Memory
fault_of_step step.NotMine = Some NotMine
fault_of_step step.NoChannel = Some NoChannel
fault_of_step step.NoChoice = Some NoChoice

-- the fault with which the refusal of a proposal ends its node: a stale one is fired anew, and ends none
abbrev pub fault_of_refusal : CommitRefusal → Option NodeFault
fault_of_refusal (refusal.Unknown k) = Some Unknown
fault_of_refusal (refusal.Stale k read held) = None
fault_of_refusal (refusal.Differs k) = Some Differs
fault_of_refusal refusal.Full = Some Full
