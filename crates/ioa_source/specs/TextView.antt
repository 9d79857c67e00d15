-- The plain data of the code's trees (view).
use Rattle.std.specs.Prelude.{map}
use Rattle.std.specs.Option.{option_map}
use Rattle.ioa_terms.specs.View.{term_of, statement_of}
use Rattle.ioa_terms.specs.SortView.{sort_of}
use Rattle.ioa_source.specs.PlainText.{PlainDeclared, PlainParameter, PlainEntry, PlainVariable, PlainTransition}
use Rattle.ioa_source.specs.PlainText.{PlainSchedule, PlainAutomaton, PlainForm, PlainType, PlainDeclaration}
use Rattle.ioa_source.specs.PlainText.{PlainNode, PlainCall, PlainScript, PlainPlacement, PlainInvariant}
use Rattle.ioa_source.specs.PlainText.{PlainText}
use Rattle.ioa_source.specs.PlainText.{const, named, enumeration, tuple_of, type_named, automaton, node, channel, script}
use Rattle.ioa_source.specs.declared.declaration.Declared.{Declared}
use Rattle.ioa_source.specs.declared.declaration.Parameter.{Parameter}
use Rattle.ioa_source.specs.declared.declaration.Parameter.TheVariants as parameter
use Rattle.ioa_source.specs.declared.declaration.Entry.{Entry}
use Rattle.ioa_source.specs.declared.declaration.Variable.{Variable}
use Rattle.ioa_source.specs.declared.declaration.Transition.{Transition}
use Rattle.ioa_source.specs.declared.declaration.Schedule.{Schedule}
use Rattle.ioa_source.specs.declared.declaration.Automaton.{Automaton}
use Rattle.ioa_source.specs.declared.declaration.TypeForm.{TypeForm}
use Rattle.ioa_source.specs.declared.declaration.TypeForm.TheVariants as form
use Rattle.ioa_source.specs.declared.declaration.TypeDeclaration.{TypeDeclaration}
use Rattle.ioa_source.specs.declared.declaration.Declaration.{Declaration}
use Rattle.ioa_source.specs.declared.declaration.Declaration.TheVariants as declaration
use Rattle.ioa_source.specs.declared.declaration.Node.{Node}
use Rattle.ioa_source.specs.declared.declaration.Call.{Call}
use Rattle.ioa_source.specs.declared.declaration.ScriptDeclaration.{ScriptDeclaration}
use Rattle.ioa_source.specs.declared.declaration.Placement.{Placement}
use Rattle.ioa_source.specs.declared.declaration.Placement.TheVariants as placement
use Rattle.ioa_source.specs.declared.declaration.Invariant.{Invariant}
use Rattle.ioa_source.specs.declared.declaration.Text.{Text}

abbrev pub declared_of : {D : Type 0} → Declared D → PlainDeclared D
declared_of d = record { name = d.name; sort = sort_of d.sort; shape = d.shape }

abbrev pub parameter_of : {N C D : Type 0} → Parameter N C D → PlainParameter N C D
parameter_of (parameter.Const t) = const (term_of t)
parameter_of (parameter.Declared d) = named (declared_of d)

abbrev pub entry_of : {N C D : Type 0} → Entry N C D → PlainEntry N C D
entry_of e = record {
  kind = e.kind;
  name = e.name;
  parameters = map parameter_of e.parameters.items;
  condition = option_map term_of e.condition;
}

abbrev pub variable_of : {N C D : Type 0} → Variable N C D → PlainVariable N C D
variable_of v = record { declared = declared_of v.declared; initial = option_map term_of v.initial }

abbrev pub transition_of : {N C D : Type 0} → Transition N C D → PlainTransition N C D
transition_of t = record {
  kind = t.kind;
  name = t.name;
  arguments = map term_of t.arguments.items;
  pre = option_map term_of t.pre;
  effect = map statement_of t.effect.items;
}

abbrev pub schedule_of : {N C D : Type 0} → Schedule N C D → PlainSchedule N C D
schedule_of s = record {
  variables = map variable_of s.variables.items;
  statements = map statement_of s.statements.items;
}

abbrev pub automaton_of : {N C D : Type 0} → Automaton N C D → PlainAutomaton N C D
automaton_of a = record {
  name = a.name;
  parameters = map declared_of a.parameters.items;
  signature = map entry_of a.signature.items;
  states = map variable_of a.states.items;
  transitions = map transition_of a.transitions.items;
  schedule = schedule_of a.schedule;
}

abbrev pub form_of : {D : Type 0} → TypeForm D → PlainForm D
form_of (form.Enumeration ws) = enumeration ws.items
form_of (form.Tuple ds) = tuple_of (map declared_of ds.items)

abbrev pub type_of : {D : Type 0} → TypeDeclaration D → PlainType D
type_of t = record { name = t.name; form = form_of t.form }

abbrev pub declaration_of : {N C D : Type 0} → Declaration N C D → PlainDeclaration N C D
declaration_of (declaration.Type t) = type_named (type_of t)
declaration_of (declaration.Automaton a) = automaton (automaton_of a)

abbrev pub node_of : {N C D : Type 0} → Node N C D → PlainNode N C D
node_of n = record { number = n.number; automaton = n.automaton; arguments = map term_of n.arguments.items }

abbrev pub call_of : {N C D : Type 0} → Call N C D → PlainCall N C D
call_of c = record { name = c.name; arguments = map term_of c.arguments.items }

abbrev pub script_of : {N C D : Type 0} → ScriptDeclaration N C D → PlainScript N C D
script_of s = record { node = s.node; calls = map call_of s.calls.items }

abbrev pub placement_of : {N C D : Type 0} → Placement N C D → PlainPlacement N C D
placement_of (placement.Node n) = node (node_of n)
placement_of (placement.Channel c) = channel c
placement_of (placement.Script s) = script (script_of s)

abbrev pub invariant_of : {N C D : Type 0} → Invariant N C D → PlainInvariant N C D
invariant_of v = record { name = v.name; term = term_of v.term }

abbrev pub text_of : {N C D : Type 0} → Text N C D → PlainText N C D
text_of t = record {
  declarations = map declaration_of t.declarations.items;
  system = map placement_of t.system.items;
  invariants = map invariant_of t.invariants.items;
}
