-- Meeting a node (profile): its configuration has the program that the worker has for the node, or the node ends.
use Rattle.std.specs.Prelude.{if◌then◌else◌, List, Option, Some, None}
use Rattle.ioa_actions.specs.declared.component.Component.TheVariants as component
use Rattle.ioa_compose.specs.Composition.{find_conf}
use Rattle.ioa_compose.specs.declared.configuration.Conf.{Conf}
use Rattle.ioa_compose.specs.declared.configuration.Conf.TheVariants.{Node, Queue}
use Rattle.ioa_record.specs.declared.ending.NodeFault.{NodeFault}
use Rattle.ioa_record.specs.declared.ending.NodeFault.TheVariants.{Differs, Unknown}
use Rattle.ioa_system.specs.Parts.{Parts}
use Rattle.ioa_system.specs.SameParts.{same_program}
use Rattle.ioa_turns.specs.NodeTurns.{PlainProgress}
use Rattle.ioa_solo.specs.Fires.{ended_by}

-- the fault with which the node of a program ends where its configuration shows this other one
abbrev pub fault_of_program : Parts → Parts → Option NodeFault
fault_of_program p shown = if same_program p shown then None else Some Differs

-- the same by what is shown of the node: a queue is none of a node, and there may be nothing
abbrev pub fault_of_conf : Parts → Option Conf → Option NodeFault
fault_of_conf p (Some (Node c)) = fault_of_program p c.program
fault_of_conf p (Some (Queue q)) = Some Differs
fault_of_conf p None = Some Unknown

-- a node once it is met among these configurations
abbrev pub met_in : List Conf → PlainProgress → PlainProgress
met_in states p = ended_by (fault_of_conf p.program (find_conf (component.Node p.program.node) states)) p p
