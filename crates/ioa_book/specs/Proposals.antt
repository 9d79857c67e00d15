-- Proposals on a look (profile): what an action would do to the configurations that were read.
use Rattle.std.specs.Prelude.{if◌then◌else◌, List, [], ◌∷◌, ◌++◌, find, Option, Some, None, Result, Ok, Err}
use Rattle.std.specs.Ordering.{int_eq}
use Rattle.ioa_values.specs.Outcome.{and_then}
use Rattle.ioa_actions.specs.ActionParts.{node_of}
use Rattle.ioa_actions.specs.ComponentOrder.{same_component}
use Rattle.ioa_actions.specs.declared.action.Action.{Action}
use Rattle.ioa_actions.specs.declared.component.Component.{Component}
use Rattle.ioa_actions.specs.declared.fault.StepFault.{StepFault}
use Rattle.ioa_actions.specs.declared.fault.StepFault.TheVariants.{NotMine}
use Rattle.ioa_compose.specs.Composition.{find_confs, picks_of}
use Rattle.ioa_compose.specs.Participants.{participants_of}
use Rattle.ioa_commits.specs.Books.{PlainBook, held_of}
use Rattle.ioa_commits.specs.Proposals.{PlainProposal, plain_proposal}
use Rattle.ioa_commits.specs.Versions.{PlainVersionedConf, read_component, read_confs}
use Rattle.ioa_book.specs.Looks.{PlainSnapshot}

-- what was read of a component, if it was
abbrev pub find_read : Component → List PlainVersionedConf → Option PlainVersionedConf
find_read k rs = find (λ r. same_component k (read_component r)) rs

-- what there is, as a list
abbrev pub one_or_none : {A : Type 0} → Option A → List A
one_or_none None = []
one_or_none (Some x) = x ∷ []

-- what was read of each of these components
abbrev pub reads_at : List Component → List PlainVersionedConf → List PlainVersionedConf
reads_at [] rs = []
reads_at (k ∷ ks) rs = one_or_none (find_read k rs) ++ reads_at ks rs

-- the result of proposing an action of the node that was looked at: each participant has to be there and to have a step
-- (Lynch 8.2); it is of the entry that they pick
abbrev pub step_answer : Action → PlainSnapshot → Result PlainProposal StepFault
step_answer a s =
    and_then (picks_of a (find_confs (participants_of a) (read_confs s.reads)))
    (λ t. Ok (plain_proposal t.0 s.length (reads_at (participants_of a) s.reads)))

-- the result of proposing an action on a look: it has to be the node's own
abbrev pub proposal_answer : Action → PlainSnapshot → Result PlainProposal StepFault
proposal_answer a s = if int_eq (node_of a) s.node then step_answer a s else Err NotMine

-- what a book holds of each of these components
abbrev pub reads_held : PlainBook → List Component → List PlainVersionedConf
reads_held b [] = []
reads_held b (k ∷ ks) = one_or_none (held_of b k) ++ reads_held b ks
