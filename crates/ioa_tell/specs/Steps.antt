-- What the parts of a telling come to (form).
use Rattle.std.specs.Prelude.{◌≡◌, ℕ, [], ◌∷◌, ◌++◌, Some, Ok}
use Rattle.ioa_actions.specs.ActionParts.{node_of}
use Rattle.ioa_actions.specs.declared.component.Component.TheVariants.{Node}
use Rattle.ioa_book.specs.Looks.{PlainSnapshot}
use Rattle.ioa_commits.specs.Books.{PlainBook, states_held}
use Rattle.ioa_commits.specs.Versions.{read_confs}
use Rattle.ioa_compose.specs.Composition.{find_conf, joint_answer}
use Rattle.ioa_compose.specs.Participants.{participants_of}
use Rattle.ioa_compose.specs.declared.configuration.Conf.{Conf}
use Rattle.ioa_transitions.specs.Entries.{PlainEntry}
use Rattle.ioa_reasons.specs.Reasons.{queue_among}
use Rattle.ioa_tell.specs.Events.{PlainEvent, taken}

-- a book in which one more entry is recorded, by the joint step (Lynch 8.2)
pub record IsNext (old : PlainBook) (e : PlainEntry) (new : PlainBook) : Type 0 where
  pub recorded : new ≡ record old { log = old.log ++ e ∷ [] }
  pub step : joint_answer e (states_held old) ≡ Ok (states_held new)

-- an action is told as taken, after so many, whose node was so before, and is now as a look shows it, as is the queue
pub record HearsTaken {S : Type 0} (hears : PlainEvent → S → S → Type 0) (look : PlainSnapshot) (k : ℕ) (e : PlainEntry)
    (was : Conf) (old new : S) : Type 0 where
  pub after : Conf
  pub shown : find_conf (Node (node_of e.action)) (read_confs look.reads) ≡ Some after
  pub heard : hears (taken k e was after (queue_among (participants_of e.action) (read_confs look.reads))) old new
