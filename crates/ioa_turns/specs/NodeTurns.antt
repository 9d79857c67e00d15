-- How far a node has come, and its turns (profile).
use Rattle.std.specs.Prelude.{ℕ, nat_eq, Bool, List, if◌then◌else◌, map, take, length, Option, Some, None, Result, Ok, Err}
use Rattle.ioa_values.specs.Data.{Data}
use Rattle.ioa_operators.specs.declared.fault.TermFault.{TermFault}
use Rattle.ioa_operators.specs.declared.shape.Shape.{Shape}
use Rattle.ioa_actions.specs.declared.component.Component.TheVariants as component
use Rattle.ioa_terms.specs.declared.callee.Callee.{Callee}
use Rattle.ioa_terms.specs.Bindings.{Bindings}
use Rattle.ioa_terms.specs.Inboxes.{PlainInboxes, inbox_values}
use Rattle.ioa_terms.specs.PlainTerm.{PlainStatements, statements_of}
use Rattle.ioa_terms.specs.View.{firing_of}
use Rattle.ioa_system.specs.InView.{block_bindings}
use Rattle.ioa_system.specs.Parts.{Parts}
use Rattle.ioa_transitions.specs.NodeState.{NodeState}
use Rattle.ioa_compose.specs.Composition.{find_conf}
use Rattle.ioa_compose.specs.declared.configuration.Conf.{Conf}
use Rattle.ioa_compose.specs.declared.configuration.Conf.TheVariants.{Node, Queue}
use Rattle.ioa_record.specs.NodeFaults.{fault_of_term}
use Rattle.ioa_record.specs.declared.ending.Ending.{Ending}
use Rattle.ioa_record.specs.declared.ending.NodeFault.{NodeFault}
use Rattle.ioa_record.specs.declared.ending.NodeFault.TheVariants.{Differs, Unknown}
use Rattle.ioa_schedules.specs.Controls.{arguments_of, kept_of, todo_of, values_of}
use Rattle.ioa_schedules.specs.States.{PlainState}
use Rattle.ioa_schedules.specs.Turns.{TurnEnd, TurnResult, fires, idle, done, following_statements, turn_answer, turn_limit}
use Rattle.ioa_schedules.specs.declared.turn.Turn.{Turn}
use Rattle.ioa_schedules.specs.declared.turn.Turn.TheVariants as turn
use Rattle.ioa_turns.specs.Inboxes.{inboxes_seen}
use Rattle.ioa_turns.specs.declared.progress.Progress.{Progress}

-- how far a node has come: its program, what its block has still to do, the values of the block's own variables, how
-- many attempts are left, and how the node ended, if it did
pub record PlainProgress : Type 0 where
  pub program : Parts
  pub todo : PlainStatements ℕ Callee Shape
  pub own : List Data
  pub attempts : ℕ
  pub ending : Option Ending

-- the same as the code keeps it (view)
abbrev pub progress_of : Progress → PlainProgress
progress_of p = record {
  program = p.program.now;
  todo = todo_of p.control;
  own = values_of p.control;
  attempts = p.attempts;
  ending = p.ending;
}

-- the arguments that a node keeps (view): those of the `fire` at which its last turn ended, if it ended at one
abbrev pub arguments_in : Progress → List Data
arguments_in p = arguments_of p.control

-- the block of a node (view)
abbrev pub block_of : PlainProgress → PlainState
block_of p = record { todo = p.todo; own = p.own }

-- a node with another block
abbrev pub with_block : PlainState → PlainProgress → PlainProgress
with_block s p = record p { todo = s.todo; own = s.own }

-- the block of a node before its last turn (view), which is kept if that turn took statements
abbrev pub kept_in : Progress → Option PlainState
kept_in p = kept_of p.control

-- a node before a run: all of its block is to do, the block's variables have their first values, and the node has all
-- its attempts
abbrev pub progress_at : ℕ → Parts → PlainProgress
progress_at attempts p = record {
  program = p;
  todo = statements_of p.automaton.schedule.statements;
  own = p.block;
  attempts = attempts;
  ending = None;
}

-- a node that ends so
abbrev pub with_ending : Ending → PlainProgress → PlainProgress
with_ending e p = record p { ending = Some e }

-- a node whose block has moved past the fire at which it stood
abbrev pub past_fire : PlainProgress → PlainProgress
past_fire p = record p { todo = following_statements p.todo }

-- the values of the block's own variables, which come first in what it reads
abbrev pub own_values : ℕ → Bindings → List Data
own_values count e = take count (map (λ b. b.1) e)

-- where a turn leaves a node: how it ends, what is still to do then, and the values that the block's variables have
abbrev pub reached : PlainProgress → Result TurnResult TermFault → Result (TurnEnd × PlainProgress) NodeFault
reached p (Ok r) = Ok (r.ending, record p { todo = r.todo; own = own_values (length p.own) r.bindings })
reached p (Err f) = Err (fault_of_term f)

-- the turn of a node whose variables have these values: that of its block, which reads its own variables, the inboxes
-- if it sees them, these values, the parameters of the automaton and the text's constants
abbrev pub block_turn : PlainProgress → Option PlainInboxes → List Data → Result (TurnEnd × PlainProgress) NodeFault
block_turn p inboxes variables =
    reached p (turn_answer p.todo turn_limit
    (block_bindings p.program.automaton p.program.arguments variables (inbox_values inboxes) p.own))

-- whether a configuration may be one of a node with this program: it has a value for each state variable
abbrev pub shows_program : Parts → NodeState → Bool
shows_program p c = nat_eq (length c.variables) (length p.automaton.variables)

-- the turn of a node on a configuration: there is none if it can't be the node's, or if there is no such node
abbrev pub turn_on : PlainProgress → Option PlainInboxes → Option Conf → Result (TurnEnd × PlainProgress) NodeFault
turn_on p inboxes (Some (Node c)) =
    if shows_program p.program c then block_turn p inboxes c.variables else Err Differs
turn_on p inboxes (Some (Queue q)) = Err Differs
turn_on p inboxes None = Err Unknown

-- the turn of a node among these configurations
abbrev pub turn_at : List Conf → PlainProgress → Result (TurnEnd × PlainProgress) NodeFault
turn_at states p = turn_on p (inboxes_seen p.program states) (find_conf (component.Node p.program.node) states)

-- how a turn ends, if these are the arguments of a `fire` (view)
abbrev pub end_of : List Data → Turn → TurnEnd
end_of vs (turn.Fire f) = fires (firing_of f.now).kind (firing_of f.now).action vs
end_of vs turn.Idle = idle
end_of vs turn.Done = done
