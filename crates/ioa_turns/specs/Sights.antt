-- What the block of a node sees on a look (profile).
use Rattle.std.specs.Prelude.{ℕ, List, if◌then◌else◌, Option, Some, None}
use Rattle.std.specs.Option.{option_map}
use Rattle.ioa_values.specs.Data.{Data}
use Rattle.ioa_operators.specs.declared.shape.Shape.{Shape}
use Rattle.ioa_actions.specs.declared.component.Component.TheVariants as component
use Rattle.ioa_terms.specs.declared.callee.Callee.{Callee}
use Rattle.ioa_terms.specs.declared.name.Name.{Name}
use Rattle.ioa_terms.specs.Bindings.{Bindings}
use Rattle.ioa_terms.specs.Inboxes.{PlainInboxes, inbox_values, inboxes_of}
use Rattle.ioa_terms.specs.PlainTerm.{PlainStatements}
use Rattle.ioa_system.specs.InView.{block_bindings, block_own_names, block_statement, declared_names, names_at}
use Rattle.ioa_system.specs.Parts.{Parts}
use Rattle.ioa_compose.specs.Composition.{find_conf}
use Rattle.ioa_compose.specs.declared.configuration.Conf.{Conf}
use Rattle.ioa_compose.specs.declared.configuration.Conf.TheVariants.{Node, Queue}
use Rattle.ioa_schedules.specs.Steppings as stepping
use Rattle.ioa_turns.specs.Inboxes.{inboxes_seen}
use Rattle.ioa_turns.specs.NodeTurns.{shows_program}
use Rattle.ioa_turns.specs.declared.block.BlockSteps.{BlockSteps}

-- what the block of a node sees beside its own variables: the inboxes, if it sees them, and the values of the node's
-- state variables
pub record Sight : Type 0 where
  pub program : Parts
  pub inboxes : Option PlainInboxes
  pub variables : List Data

-- what the block of a node with this program sees among configurations, if one of them may be the node's
abbrev pub sight_by : Parts → Option PlainInboxes → Option Conf → Option Sight
sight_by p inboxes (Some (Node c)) =
    if shows_program p c
    then Some (record { program = p; inboxes = inboxes; variables = c.variables })
    else None
sight_by p inboxes (Some (Queue q)) = None
sight_by p inboxes None = None

abbrev pub sight_on : Parts → List Conf → Option Sight
sight_on p states = sight_by p (inboxes_seen p states) (find_conf (component.Node p.node) states)

-- the bindings in which a statement of the block is taken, if its own variables have these values
abbrev pub bindings_in : Sight → List Data → Bindings
bindings_in s own = block_bindings s.program.automaton s.program.arguments s.variables (inbox_values s.inboxes) own

-- the names that a statement of a block reads
abbrev pub block_names : Parts → List Name
block_names p = names_at block_statement (declared_names p.automaton) (block_own_names p.automaton)

-- what a block that is gone through sees (view), what is still to do of it, and the values of its own variables
abbrev pub sight_of : BlockSteps → Sight
sight_of b = record {
  program = b.program.now;
  inboxes = option_map (λ v. inboxes_of v.items) b.inboxes;
  variables = b.conf.now.variables;
}

abbrev pub todo_in : BlockSteps → PlainStatements ℕ Callee Shape
todo_in b = stepping.to_do_in b.stepping

abbrev pub own_of : BlockSteps → List Data
own_of b = stepping.own_in b.stepping
