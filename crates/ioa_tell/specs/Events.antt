-- What is told of a run (profile): actions that were taken, actions that were missed, idle turns and endings.
use Rattle.std.specs.Prelude.{ℕ, ℤ, List, Option}
use Rattle.std.specs.Option.{option_copied}
use Rattle.ioa_actions.specs.declared.action.Action.{Action}
use Rattle.ioa_compose.specs.declared.configuration.Conf.{Conf}
use Rattle.ioa_record.specs.declared.ending.Ending.{Ending}
use Rattle.ioa_transitions.specs.Entries.{PlainEntry}
use Rattle.ioa_values.specs.Data.{Data}
use Rattle.ioa_reasons.specs.PlainReasons.{PlainFault, PlainPlace, PlainReason, PlainStatementPlace}
use Rattle.ioa_reasons.specs.PlainReasons.{fault_of, place_of, reason_of, statement_place_of}
use Rattle.ioa_tell.specs.declared.event.Event.{Event}
use Rattle.ioa_tell.specs.declared.event.Event.TheVariants as event

-- an event: an action was taken, after so many, which found its node so, left it so, and left its queue so; an action
-- was missed; the step of one met a fault there; an argument of one is not of the sort of its parameter; a turn of a
-- block met a fault; a turn of a node was idle; a node stopped; and an ending
pub data PlainEvent : Type 0 where
  taken : ℕ → PlainEntry → Conf → Conf → Option Conf → PlainEvent
  missed : ℕ → Action → PlainReason → PlainEvent
  faulted : ℕ → Action → PlainPlace → PlainFault → PlainEvent
  unfit : ℕ → Action → List ℕ → Data → PlainEvent
  stuck : ℕ → ℤ → PlainStatementPlace → PlainFault → PlainEvent
  idle : ℕ → ℤ → PlainEvent
  stopped : ℕ → ℤ → PlainEvent
  ended : ℕ → Ending → PlainEvent

-- the same as the code tells it (view)
abbrev pub event_of : Event → PlainEvent
event_of (event.Taken k e before after queue) = taken k e.now before.now after.now (option_copied queue)
event_of (event.Missed k a r) = missed k a.now (reason_of r)
event_of (event.Faulted k a p f) = faulted k a.now (place_of p) (fault_of f)
event_of (event.Unfit k a w v) = unfit k a.now w.now v.now
event_of (event.Stuck k n p f) = stuck k n (statement_place_of p) (fault_of f)
event_of (event.Idle k n) = idle k n
event_of (event.Stopped k n) = stopped k n
event_of (event.Ended n e) = ended n e
