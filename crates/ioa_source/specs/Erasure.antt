-- A checked text without the annotations of its names, displays, fields, assigned variables and declared sorts:
-- the text as it is spelled (profile).
use Rattle.std.specs.Prelude.{map}
use Rattle.std.specs.Option.{option_map}
use Rattle.ioa_terms.specs.PlainTerm.{PlainTerm, PlainTerms, PlainTarget, PlainStatement, PlainStatements, PlainArms}
use Rattle.ioa_terms.specs.PlainTerm.{number, truth, name, one, two, call, display, field, no_terms, term}
use Rattle.ioa_terms.specs.PlainTerm.{variable, at_key, at_field, assign, branch, loop, fire, choosing, PlainFiring, firing, PlainChoice, choice_with}
use Rattle.ioa_terms.specs.PlainTerm.{no_statements, statement, no_arms, arm}
use Rattle.ioa_source.specs.PlainText.{PlainDeclared, PlainParameter, PlainEntry, PlainVariable, PlainTransition}
use Rattle.ioa_source.specs.PlainText.{PlainSchedule, PlainAutomaton, PlainForm, PlainType, PlainDeclaration}
use Rattle.ioa_source.specs.PlainText.{PlainNode, PlainCall, PlainScript, PlainPlacement, PlainInvariant}
use Rattle.ioa_source.specs.PlainText.{PlainText}
use Rattle.ioa_source.specs.PlainText.{const, named, enumeration, tuple_of, type_named, automaton, node, channel, script}
use Rattle.ioa_source.specs.Sides.{SourceTerm, SourceTerms, SourceTarget, SourceStatement, SourceStatements, SourceArms}
use Rattle.ioa_source.specs.Sides.{SourceFiring, SourceChoice, SourceSchedule}
use Rattle.ioa_source.specs.Sides.{SourceDeclared, SourceParameter, SourceEntry, SourceVariable, SourceTransition}
use Rattle.ioa_source.specs.Sides.{SourceAutomaton, SourceForm, SourceType, SourceDeclaration}
use Rattle.ioa_source.specs.Sides.{SourceNode, SourceCall, SourceScript, SourcePlacement, SourceInvariant}
use Rattle.ioa_source.specs.Sides.{SourceText}

abbrev mutual
  -- a term without annotations
  pub erase_term : {N C D : Type 0} → PlainTerm N C D → SourceTerm
  erase_term (number n) = number n
  erase_term (truth b) = truth b
  erase_term (name w x) = name w tt
  erase_term (one op a) = one op (erase_term a)
  erase_term (two op a b) = two op (erase_term a) (erase_term b)
  erase_term (call w c ts) = call w tt (erase_terms ts)
  erase_term (display form d ts) = display form tt (erase_terms ts)
  erase_term (field a w d) = field (erase_term a) w tt

  -- terms without annotations
  pub erase_terms : {N C D : Type 0} → PlainTerms N C D → SourceTerms
  erase_terms no_terms = no_terms
  erase_terms (term t more) = term (erase_term t) (erase_terms more)

abbrev pub erase_target : {N C D : Type 0} → PlainTarget N C D → SourceTarget
erase_target (variable w x d) = variable w tt tt
erase_target (at_key w x d t) = at_key w tt tt (erase_term t)
erase_target (at_field w x d f) = at_field w tt tt f

abbrev pub erase_firing : {N C D : Type 0} → PlainFiring N C D → SourceFiring
erase_firing f = firing f.kind f.action tt (map erase_term f.arguments)

abbrev pub erase_choice : {N C D : Type 0} → PlainChoice N C D → SourceChoice
erase_choice c = choice_with (erase_target c.target) c.name c.sort tt (erase_term c.condition) (erase_term c.yields)

abbrev mutual
  pub erase_statement : {N C D : Type 0} → PlainStatement N C D → SourceStatement
  erase_statement (assign p t) = assign (erase_target p) (erase_term t)
  erase_statement (branch arms rest) = branch (erase_arms arms) (erase_statements rest)
  erase_statement (loop t body) = loop (erase_term t) (erase_statements body)
  erase_statement (fire f) = fire (erase_firing f)
  erase_statement (choosing c) = choosing (erase_choice c)

  pub erase_statements : {N C D : Type 0} → PlainStatements N C D → SourceStatements
  erase_statements no_statements = no_statements
  erase_statements (statement s more) = statement (erase_statement s) (erase_statements more)

  pub erase_arms : {N C D : Type 0} → PlainArms N C D → SourceArms
  erase_arms no_arms = no_arms
  erase_arms (arm t ss more) = arm (erase_term t) (erase_statements ss) (erase_arms more)

abbrev pub erase_declared : {D : Type 0} → PlainDeclared D → SourceDeclared
erase_declared d = record { name = d.name; sort = d.sort; shape = tt }

abbrev pub erase_parameter : {N C D : Type 0} → PlainParameter N C D → SourceParameter
erase_parameter (const t) = const (erase_term t)
erase_parameter (named d) = named (erase_declared d)

abbrev pub erase_entry : {N C D : Type 0} → PlainEntry N C D → SourceEntry
erase_entry e = record {
  kind = e.kind;
  name = e.name;
  parameters = map erase_parameter e.parameters;
  condition = option_map erase_term e.condition;
}

abbrev pub erase_variable : {N C D : Type 0} → PlainVariable N C D → SourceVariable
erase_variable v = record { declared = erase_declared v.declared; initial = option_map erase_term v.initial }

abbrev pub erase_transition : {N C D : Type 0} → PlainTransition N C D → SourceTransition
erase_transition t = record {
  kind = t.kind;
  name = t.name;
  arguments = map erase_term t.arguments;
  pre = option_map erase_term t.pre;
  effect = map erase_statement t.effect;
}

abbrev pub erase_schedule : {N C D : Type 0} → PlainSchedule N C D → SourceSchedule
erase_schedule s = record {
  variables = map erase_variable s.variables;
  statements = map erase_statement s.statements;
}

abbrev pub erase_automaton : {N C D : Type 0} → PlainAutomaton N C D → SourceAutomaton
erase_automaton a = record {
  name = a.name;
  parameters = map erase_declared a.parameters;
  signature = map erase_entry a.signature;
  states = map erase_variable a.states;
  transitions = map erase_transition a.transitions;
  schedule = erase_schedule a.schedule;
}

abbrev pub erase_form : {D : Type 0} → PlainForm D → SourceForm
erase_form (enumeration ws) = enumeration ws
erase_form (tuple_of ds) = tuple_of (map erase_declared ds)

abbrev pub erase_type : {D : Type 0} → PlainType D → SourceType
erase_type t = record { name = t.name; form = erase_form t.form }

abbrev pub erase_declaration : {N C D : Type 0} → PlainDeclaration N C D → SourceDeclaration
erase_declaration (type_named t) = type_named (erase_type t)
erase_declaration (automaton a) = automaton (erase_automaton a)

abbrev pub erase_node : {N C D : Type 0} → PlainNode N C D → SourceNode
erase_node n = record { number = n.number; automaton = n.automaton; arguments = map erase_term n.arguments }

abbrev pub erase_call : {N C D : Type 0} → PlainCall N C D → SourceCall
erase_call c = record { name = c.name; arguments = map erase_term c.arguments }

abbrev pub erase_script : {N C D : Type 0} → PlainScript N C D → SourceScript
erase_script s = record { node = s.node; calls = map erase_call s.calls }

abbrev pub erase_placement : {N C D : Type 0} → PlainPlacement N C D → SourcePlacement
erase_placement (node n) = node (erase_node n)
erase_placement (channel c) = channel c
erase_placement (script s) = script (erase_script s)

abbrev pub erase_invariant : {N C D : Type 0} → PlainInvariant N C D → SourceInvariant
erase_invariant v = record { name = v.name; term = erase_term v.term }

abbrev pub erase : {N C D : Type 0} → PlainText N C D → SourceText
erase t = record {
  declarations = map erase_declaration t.declarations;
  system = map erase_placement t.system;
  invariants = map erase_invariant t.invariants;
}
