-- So may programs and systems.
use denote.Builtin.{usize}
use denote.Param.Send.{IsSend, IsSync, sendable}
use Rattle.std.proofs.Crossing.{crosses}
use Rattle.ioa_operators.proofs.shape.Shape.TheLaws.TheKnot as shape_knot
use Rattle.ioa_terms.proofs.sort.Sort.TheLaws.TheKnot as sort_knot
use Rattle.ioa_terms.proofs.tree.Tree.TheLaws.TheKnot as tree_knot
use Rattle.ioa_terms.proofs.tree.Statement.TheLaws.TheKnot as statement_knot
use Rattle.ioa_operators.specs.contracts.shape.Shape as Shape
use Rattle.ioa_terms.specs.contracts.callee.Callee as Callee
use Rattle.ioa_terms.specs.contracts.name.Name as Name
use Rattle.ioa_terms.specs.contracts.sort.Sort as Sort
use Rattle.ioa_source.specs.contracts.declaration.Declared as Declared
use Rattle.ioa_source.specs.contracts.declaration.Variable as Variable
use Rattle.ioa_source.specs.contracts.declaration.Entry as Entry
use Rattle.ioa_source.specs.contracts.declaration.Transition as Transition
use Rattle.ioa_source.specs.contracts.declaration.Schedule as Schedule
use Rattle.ioa_terms.specs.contracts.tree.Choice as Choice
use Rattle.ioa_terms.specs.contracts.tree.Tree as Tree
use Rattle.ioa_terms.specs.contracts.tree.Statement as Statement
use Rattle.ioa_values.specs.contracts.names.Names as Names
use Rattle.ioa_system.specs.contracts.automaton.Rule as Rule
use Rattle.ioa_system.specs.contracts.rules.Rules as Rules
use Rattle.ioa_system.specs.contracts.automaton.CheckedAutomaton as CheckedAutomaton
use Rattle.ioa_system.specs.contracts.program.Program as Program
use Rattle.ioa_system.specs.contracts.script.Script as Script
use Rattle.ioa_system.specs.contracts.invariant.CheckedInvariant as CheckedInvariant
use Rattle.ioa_system.specs.contracts.system.System as System
use Rattle.ioa_crossing.proofs.Actions.{node_action_send, node_action_sync, owners, value_send, value_sync, word_send, word_sync}

pub shape_send : IsSend (Shape.the_field).row
shape_send = search (owners, word_send, word_sync, crosses, shape_knot.crosses, sendable) depth 60 fits 20000

pub shape_sync : IsSync (Shape.the_field).row
shape_sync = search (owners, word_send, word_sync, crosses, shape_knot.crosses, sendable) depth 60 fits 20000

pub sort_send : IsSend (Sort.the_field).row
sort_send = search (owners, word_send, crosses, sort_knot.crosses, sendable) depth 60 fits 20000

pub sort_sync : IsSync (Sort.the_field).row
sort_sync = search (owners, word_sync, crosses, sort_knot.crosses, sendable) depth 60 fits 20000

pub names_send : IsSend (Names.the_field).row
names_send = search (owners, word_send, crosses, sendable) depth 60 fits 20000

pub names_sync : IsSync (Names.the_field).row
names_sync = search (owners, word_sync, crosses, sendable) depth 60 fits 20000

pub name_send : IsSend (Name.the_field).row
name_send = search (word_send, crosses, sendable) depth 60 fits 20000

pub name_sync : IsSync (Name.the_field).row
name_sync = search (word_sync, crosses, sendable) depth 60 fits 20000

pub callee_send : IsSend (Callee.the_field).row
callee_send = search (crosses, sendable) depth 60 fits 20000

pub callee_sync : IsSync (Callee.the_field).row
callee_sync = search (crosses, sendable) depth 60 fits 20000

pub tree_send : IsSend (Tree.the_field usize Callee.the_row Shape.the_row).row
tree_send = search (callee_send, owners, word_send, shape_send, crosses, tree_knot.crosses, sendable) depth 60 fits 20000

pub tree_sync : IsSync (Tree.the_field usize Callee.the_row Shape.the_row).row
tree_sync = search (callee_sync, owners, word_sync, shape_sync, crosses, tree_knot.crosses, sendable) depth 60 fits 20000

pub choice_send : IsSend (Choice.the_field usize Callee.the_row Shape.the_row).row
choice_send = search (callee_send, owners, word_send, sort_send, shape_send, tree_send, crosses, sendable) depth 60 fits 20000

pub choice_sync : IsSync (Choice.the_field usize Callee.the_row Shape.the_row).row
choice_sync = search (callee_sync, owners, word_sync, sort_sync, shape_sync, tree_sync, crosses, sendable) depth 60 fits 20000

pub statement_send : IsSend (Statement.the_field usize Callee.the_row Shape.the_row).row
statement_send = search (callee_send, choice_send, owners, word_send, shape_send, tree_send, crosses, statement_knot.crosses, sendable) depth 60 fits 20000

pub statement_sync : IsSync (Statement.the_field usize Callee.the_row Shape.the_row).row
statement_sync = search (callee_sync, choice_sync, owners, word_sync, shape_sync, tree_sync, crosses, statement_knot.crosses, sendable) depth 60 fits 20000

pub declared_send : IsSend (Declared.the_field Shape.the_row).row
declared_send = search (word_send, sort_send, shape_send, sendable) depth 60 fits 20000

pub declared_sync : IsSync (Declared.the_field Shape.the_row).row
declared_sync = search (word_sync, sort_sync, shape_sync, sendable) depth 60 fits 20000

pub variable_send : IsSend (Variable.the_field usize Callee.the_row Shape.the_row).row
variable_send = search (callee_send, declared_send, tree_send, crosses, sendable) depth 60 fits 20000

pub variable_sync : IsSync (Variable.the_field usize Callee.the_row Shape.the_row).row
variable_sync = search (callee_sync, declared_sync, tree_sync, crosses, sendable) depth 60 fits 20000

pub entry_send : IsSend (Entry.the_field usize Callee.the_row Shape.the_row).row
entry_send = search (callee_send, word_send, declared_send, tree_send, crosses, sendable) depth 60 fits 20000

pub entry_sync : IsSync (Entry.the_field usize Callee.the_row Shape.the_row).row
entry_sync = search (callee_sync, word_sync, declared_sync, tree_sync, crosses, sendable) depth 60 fits 20000

pub transition_send : IsSend (Transition.the_field usize Callee.the_row Shape.the_row).row
transition_send = search (callee_send, word_send, tree_send, statement_send, crosses, sendable) depth 60 fits 20000

pub transition_sync : IsSync (Transition.the_field usize Callee.the_row Shape.the_row).row
transition_sync = search (callee_sync, word_sync, tree_sync, statement_sync, crosses, sendable) depth 60 fits 20000

pub schedule_send : IsSend (Schedule.the_field usize Callee.the_row Shape.the_row).row
schedule_send = search (callee_send, variable_send, statement_send, crosses, sendable) depth 60 fits 20000

pub schedule_sync : IsSync (Schedule.the_field usize Callee.the_row Shape.the_row).row
schedule_sync = search (callee_sync, variable_sync, statement_sync, crosses, sendable) depth 60 fits 20000

pub rule_send : IsSend (Rule.the_field).row
rule_send = search (entry_send, shape_send, transition_send, word_send, crosses, sendable) depth 60 fits 20000

pub rule_sync : IsSync (Rule.the_field).row
rule_sync = search (entry_sync, shape_sync, transition_sync, word_sync, crosses, sendable) depth 60 fits 20000

pub rules_send : IsSend (Rules.the_field).row
rules_send = search (rule_send, crosses, sendable) depth 60 fits 20000

pub rules_sync : IsSync (Rules.the_field).row
rules_sync = search (rule_sync, crosses, sendable) depth 60 fits 20000

pub automaton_send : IsSend (CheckedAutomaton.the_field).row
automaton_send = search (word_send, names_send, names_sync, declared_send, variable_send, rules_send, schedule_send, crosses, sendable) depth 60 fits 20000

pub automaton_sync : IsSync (CheckedAutomaton.the_field).row
automaton_sync = search (word_sync, names_send, names_sync, declared_sync, variable_sync, rules_sync, schedule_sync, crosses, sendable) depth 60 fits 20000

pub program_send : IsSend (Program.the_field).row
program_send = search (automaton_send, automaton_sync, value_send, crosses, sendable) depth 60 fits 20000

pub program_sync : IsSync (Program.the_field).row
program_sync = search (automaton_send, automaton_sync, value_sync, crosses, sendable) depth 60 fits 20000

pub script_send : IsSend (Script.the_field).row
script_send = search (owners, node_action_send, crosses, sendable) depth 60 fits 20000

pub script_sync : IsSync (Script.the_field).row
script_sync = search (owners, node_action_sync, crosses, sendable) depth 60 fits 20000

pub invariant_send : IsSend (CheckedInvariant.the_field).row
invariant_send = search (word_send, names_send, names_sync, name_send, tree_send, crosses, sendable) depth 60 fits 20000

pub invariant_sync : IsSync (CheckedInvariant.the_field).row
invariant_sync = search (word_sync, names_send, names_sync, name_sync, tree_sync, crosses, sendable) depth 60 fits 20000

pub system_send : IsSend (System.the_field).row
system_send = search (owners, names_send, names_sync, program_send, program_sync, script_send, invariant_send, crosses, sendable) depth 60 fits 20000

pub system_sync : IsSync (System.the_field).row
system_sync = search (owners, names_send, names_sync, program_send, program_sync, script_sync, invariant_sync, crosses, sendable) depth 60 fits 20000
