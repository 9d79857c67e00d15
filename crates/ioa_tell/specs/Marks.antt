-- What the events of a run say of the attempts of its nodes (form).
use Rattle.std.specs.Prelude.{ℤ, List, [], ◌∷◌}
use Rattle.ioa_actions.specs.declared.action.Action.{Action}
use Rattle.ioa_transitions.specs.Entries.{PlainEntry}
use Rattle.ioa_tell.specs.Events as told
use Rattle.ioa_tell.specs.Events.{PlainEvent}

-- what an attempt came to: this entry was taken, this action was missed, or the turn of this node was idle; or this
-- node stopped
pub data Mark : Type 0 where
  took : PlainEntry → Mark
  missed : Action → Mark
  waited : ℤ → Mark
  stopped : ℤ → Mark

-- what events say of attempts, in order: a part at which a step or a turn stops says nothing more than that the node
-- stops, which is told too
abbrev pub marks_of : List PlainEvent → List Mark
marks_of [] = []
marks_of (told.taken k e before after queue ∷ more) = took e ∷ marks_of more
marks_of (told.missed k a r ∷ more) = missed a ∷ marks_of more
marks_of (told.faulted k a place f ∷ more) = marks_of more
marks_of (told.unfit k a w v ∷ more) = marks_of more
marks_of (told.stuck k n place f ∷ more) = marks_of more
marks_of (told.idle k n ∷ more) = waited n ∷ marks_of more
marks_of (told.stopped k n ∷ more) = stopped n ∷ marks_of more
marks_of (told.ended n e ∷ more) = marks_of more

-- the entries that were taken
abbrev pub entries_in : List Mark → List PlainEntry
entries_in [] = []
entries_in (took e ∷ more) = e ∷ entries_in more
entries_in (missed a ∷ more) = entries_in more
entries_in (waited n ∷ more) = entries_in more
entries_in (stopped n ∷ more) = entries_in more
