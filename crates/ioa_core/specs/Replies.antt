-- Replies as text (profile): the name of each, for a refusal its number, and what it is of. And whether one is a
-- refusal for want of memory, which none ever is.
use Rattle.std.specs.Prelude.{ℕ, Bool, true, false, List, ◌++◌, codes, Option, Some, None}
use Rattle.std.specs.Fmt.{decimal}
use Rattle.ioa_actions.specs.ComponentText.{component_text}
use Rattle.ioa_actions.specs.StepFaults.{step_fault_text}
use Rattle.ioa_actions.specs.declared.fault.StepFault.{StepFault}
use Rattle.ioa_actions.specs.declared.fault.StepFault.TheVariants as step
use Rattle.ioa_commits.specs.declared.outcome.CommitRefusal.{CommitRefusal}
use Rattle.ioa_commits.specs.declared.outcome.CommitRefusal.TheVariants as refusal
use Rattle.ioa_core.specs.declared.reply.Reply.{Reply}
use Rattle.ioa_core.specs.declared.reply.Reply.TheVariants as reply

-- what an event comes to
abbrev pub reply_text : Reply → List ℕ
reply_text reply.Looked = codes "Looked"
reply_text reply.NoNode = codes "NoNode"
reply_text reply.Proposed = codes "Proposed"
reply_text (reply.Refused f) = codes "Refused " ++ step_fault_text f
reply_text reply.NothingLooked = codes "NothingLooked"
reply_text (reply.Committed i) = codes "Committed " ++ decimal i
reply_text (reply.Stale k read held) =
    codes "50 Stale " ++ (component_text k ++ (codes ": read " ++ (decimal read ++ (codes ", held " ++ decimal held))))
reply_text reply.Full = codes "52 Full"
reply_text reply.NothingProposed = codes "NothingProposed"
reply_text reply.Abandoned = codes "Abandoned"
reply_text reply.NoHand = codes "NoHand"

-- the reply to a commit that a book refuses, if it can be of a core's own proposal (form)
abbrev pub reply_to_refusal : CommitRefusal → Option Reply
reply_to_refusal (refusal.Unknown k) = None
reply_to_refusal (refusal.Stale k read held) = Some (reply.Stale k read held)
reply_to_refusal (refusal.Differs k) = None
reply_to_refusal refusal.Full = Some reply.Full

-- whether a fault of a step is want of memory
abbrev pub is_memory_fault : StepFault → Bool
is_memory_fault step.Undefined = false
is_memory_fault step.Range = false
is_memory_fault step.Memory = true
is_memory_fault step.NotEnabled = false
is_memory_fault step.NotMine = false
is_memory_fault step.NoChannel = false
is_memory_fault step.NoChoice = false

-- whether a proposal is refused for want of memory
abbrev pub is_memory : Reply → Bool
is_memory reply.Looked = false
is_memory reply.NoNode = false
is_memory reply.Proposed = false
is_memory (reply.Refused f) = is_memory_fault f
is_memory reply.NothingLooked = false
is_memory (reply.Committed i) = false
is_memory (reply.Stale k read held) = false
is_memory reply.Full = false
is_memory reply.NothingProposed = false
is_memory reply.Abandoned = false
is_memory reply.NoHand = false
