-- What it comes to that a worker commits what a node fires (profile).
use Rattle.std.specs.Prelude.{◌≡◌, ℕ, ℤ, Option, Some, None, Ok}
use Rattle.ioa_actions.specs.declared.action.Action.{Action}
use Rattle.ioa_actions.specs.declared.fault.StepFault.{StepFault}
use Rattle.ioa_commits.specs.Books.{PlainBook, states_held}
use Rattle.ioa_commits.specs.Proposals.{PlainProposal}
use Rattle.ioa_commits.specs.declared.outcome.CommitRefusal.{CommitRefusal}
use Rattle.ioa_book.specs.Looks.{snapshot_after}
use Rattle.ioa_book.specs.Proposals.{proposal_answer}
use Rattle.ioa_record.specs.declared.ending.Ending.TheVariants.{Fault}
use Rattle.ioa_record.specs.declared.ending.NodeFault.{NodeFault}
use Rattle.ioa_record.specs.declared.ending.NodeFault.TheVariants as fault
use Rattle.ioa_held.specs.declared.outcome.Miss.{Miss}
use Rattle.ioa_held.specs.declared.outcome.Miss.TheVariants as miss
use Rattle.ioa_passes.specs.declared.outcome.ViewFault.{ViewFault}
use Rattle.ioa_passes.specs.declared.outcome.ViewFault.TheVariants as view
use Rattle.ioa_schedules.specs.Turns.{TurnEnd}
use Rattle.ioa_turns.specs.Faults.{fault_of_refusal, fault_of_step}
use Rattle.ioa_turns.specs.NodeTurns.{PlainProgress, past_fire, with_ending}
use Rattle.ioa_solo.specs.Attempts.{fire_answer}
use Rattle.ioa_solo.specs.Solo.{PlainCourse, after_end, after_fire, course_of}

-- a proposal that a node makes on the book as it is
abbrev pub IsProposedIn : PlainBook → ℤ → PlainProposal → Type 0
IsProposedIn b n x = proposal_answer x.entry.action (snapshot_after n b.start b.log) ≡ Ok x

-- a book and a node after the node has fired an action
abbrev pub IsAfterFire : PlainBook → PlainProgress → Action → PlainBook → PlainProgress → Type 0
IsAfterFire old p a new q =
    after_fire (fire_answer old.limit old.log (states_held old) p.program.node a) (course_of old) p ≡ (course_of new, q)

-- the same after a turn that ends so
abbrev pub IsAfterEnd : PlainBook → PlainProgress → TurnEnd → PlainBook → PlainProgress → Type 0
IsAfterEnd old p e new q = after_end old.limit (course_of old) p e ≡ (course_of new, q)

-- a book and a node after what a worker does with the node
abbrev pub Comes : (ℕ → PlainCourse → PlainProgress → PlainCourse × PlainProgress) → PlainBook → PlainProgress
    → PlainBook → PlainProgress → Type 0
Comes does old p new q = does old.limit (course_of old) p ≡ (course_of new, q)

-- a node after a fault, if there is one
abbrev pub ended_by : Option NodeFault → PlainProgress → PlainProgress → PlainProgress
ended_by None without p = without
ended_by (Some f) without p = with_ending (Fault f) p

-- a node after a step that an action has not: the block moves past one that is not enabled
abbrev pub failed_by : StepFault → PlainProgress → PlainProgress
failed_by f p = ended_by (fault_of_step f) (past_fire p) p

-- a node after a proposal that the book refused: one that is stale is fired anew
abbrev pub refused_by : CommitRefusal → PlainProgress → PlainProgress
refused_by why p = ended_by (fault_of_refusal why) p p

-- a node after a proposal that was missed
abbrev pub missed_by : Miss → PlainProgress → PlainProgress
missed_by (miss.Older o) p = with_ending (Fault fault.Older) p
missed_by (miss.Refused why) p = refused_by why p

-- the fault with which a node ends for want of a look
abbrev pub fault_of_view : ViewFault → NodeFault
fault_of_view view.Memory = fault.Memory
fault_of_view view.Unknown = fault.Unknown
fault_of_view (view.Older o) = fault.Older
