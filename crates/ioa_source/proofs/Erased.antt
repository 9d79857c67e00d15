-- A text as it is spelled has no annotation to erase.
use Rattle.std.proofs.Common.{◌≡◌, List, [], ◌∷◌, Option, Some, None, map, refl, ap}
use Rattle.std.specs.Option.{option_map}
use Rattle.ioa_terms.specs.PlainTerm.{number, truth, name, one, two, call, display, field, no_terms, term, variable, at_key, at_field, assign, branch, loop, fire, choosing, firing, choice_with, no_statements, statement, no_arms, arm}
use Rattle.ioa_source.specs.PlainText.{const, named, enumeration, tuple_of, type_named, automaton, node, channel, script}
use Rattle.ioa_source.specs.Sides.{SourceTerm, SourceTerms, SourceTarget, SourceStatement, SourceFiring, SourceStatements, SourceArms, SourceDeclared, SourceParameter, SourceEntry, SourceVariable, SourceTransition, SourceSchedule, SourceAutomaton, SourceForm, SourceType, SourceDeclaration, SourceNode, SourceCall, SourceScript, SourcePlacement, SourceInvariant, SourceText}
use Rattle.ioa_source.specs.Erasure.{erase_term, erase_terms, erase_target, erase_statement, erase_firing, erase_statements, erase_arms, erase_declared, erase_parameter, erase_entry, erase_variable, erase_transition, erase_schedule, erase_automaton, erase_form, erase_type, erase_declaration, erase_node, erase_call, erase_script, erase_placement, erase_invariant, erase}

-- a function that changes no item changes no list, and no option
each : {A : Type 0} (f : A → A) → ((x : A) → f x ≡ x) → (xs : List A) → map f xs ≡ xs
each f same [] = refl
each f same (x ∷ xs) = λ i. same x i ∷ each f same xs i

if_there : {A : Type 0} (f : A → A) → ((x : A) → f x ≡ x) → (o : Option A) → option_map f o ≡ o
if_there f same None = refl
if_there f same (Some x) = ap Some (same x)

mutual
  term_erased : (t : SourceTerm) → erase_term t ≡ t
  term_erased (number n) = refl
  term_erased (truth b) = refl
  term_erased (name w x) = refl
  term_erased (one op a) = ap (one op) (term_erased a)
  term_erased (two op a b) = λ i. two op (term_erased a i) (term_erased b i)
  term_erased (call w c ts) = ap (call w tt) (terms_erased ts)
  term_erased (display form d ts) = ap (display form tt) (terms_erased ts)
  term_erased (field a w d) = λ i. field (term_erased a i) w tt

  terms_erased : (ts : SourceTerms) → erase_terms ts ≡ ts
  terms_erased no_terms = refl
  terms_erased (term t more) = λ i. term (term_erased t i) (terms_erased more i)

target_erased : (p : SourceTarget) → erase_target p ≡ p
target_erased (variable w x d) = refl
target_erased (at_key w x d t) = ap (at_key w tt tt) (term_erased t)
target_erased (at_field w x d f) = refl

firing_erased : (f : SourceFiring) → erase_firing f ≡ f
firing_erased f = ap (firing f.kind f.action tt) (each erase_term term_erased f.arguments)

mutual
  statement_erased : (s : SourceStatement) → erase_statement s ≡ s
  statement_erased (assign p t) = λ i. assign (target_erased p i) (term_erased t i)
  statement_erased (branch arms rest) = λ i. branch (arms_erased arms i) (statements_erased rest i)
  statement_erased (loop t body) = λ i. loop (term_erased t i) (statements_erased body i)
  statement_erased (fire f) = ap fire (firing_erased f)
  statement_erased (choosing c) = λ i. choosing (choice_with (target_erased c.target i) c.name c.sort c.shape (term_erased c.condition i) (term_erased c.yields i))

  statements_erased : (ss : SourceStatements) → erase_statements ss ≡ ss
  statements_erased no_statements = refl
  statements_erased (statement s more) = λ i. statement (statement_erased s i) (statements_erased more i)

  arms_erased : (arms : SourceArms) → erase_arms arms ≡ arms
  arms_erased no_arms = refl
  arms_erased (arm t ss more) = λ i. arm (term_erased t i) (statements_erased ss i) (arms_erased more i)

declared_erased : (d : SourceDeclared) → erase_declared d ≡ d
declared_erased d = refl

parameter_erased : (p : SourceParameter) → erase_parameter p ≡ p
parameter_erased (const t) = ap const (term_erased t)
parameter_erased (named d) = refl

entry_erased : (e : SourceEntry) → erase_entry e ≡ e
entry_erased e = λ i. record {
  kind = e.kind;
  name = e.name;
  parameters = each erase_parameter parameter_erased e.parameters i;
  condition = if_there erase_term term_erased e.condition i;
}

variable_erased : (v : SourceVariable) → erase_variable v ≡ v
variable_erased v = λ i. record { declared = v.declared; initial = if_there erase_term term_erased v.initial i }

transition_erased : (t : SourceTransition) → erase_transition t ≡ t
transition_erased t = λ i. record {
  kind = t.kind;
  name = t.name;
  arguments = each erase_term term_erased t.arguments i;
  pre = if_there erase_term term_erased t.pre i;
  effect = each erase_statement statement_erased t.effect i;
}

schedule_erased : (s : SourceSchedule) → erase_schedule s ≡ s
schedule_erased s = λ i. record {
  variables = each erase_variable variable_erased s.variables i;
  statements = each erase_statement statement_erased s.statements i;
}

automaton_erased : (a : SourceAutomaton) → erase_automaton a ≡ a
automaton_erased a = λ i. record {
  name = a.name;
  parameters = each erase_declared declared_erased a.parameters i;
  signature = each erase_entry entry_erased a.signature i;
  states = each erase_variable variable_erased a.states i;
  transitions = each erase_transition transition_erased a.transitions i;
  schedule = schedule_erased a.schedule i;
}

form_erased : (f : SourceForm) → erase_form f ≡ f
form_erased (enumeration ws) = refl
form_erased (tuple_of ds) = ap tuple_of (each erase_declared declared_erased ds)

type_erased : (t : SourceType) → erase_type t ≡ t
type_erased t = λ i. record { name = t.name; form = form_erased t.form i }

declaration_erased : (d : SourceDeclaration) → erase_declaration d ≡ d
declaration_erased (type_named t) = ap type_named (type_erased t)
declaration_erased (automaton a) = ap automaton (automaton_erased a)

node_erased : (n : SourceNode) → erase_node n ≡ n
node_erased n = λ i. record { number = n.number; automaton = n.automaton; arguments = each erase_term term_erased n.arguments i }

call_erased : (c : SourceCall) → erase_call c ≡ c
call_erased c = λ i. record { name = c.name; arguments = each erase_term term_erased c.arguments i }

script_erased : (s : SourceScript) → erase_script s ≡ s
script_erased s = λ i. record { node = s.node; calls = each erase_call call_erased s.calls i }

placement_erased : (p : SourcePlacement) → erase_placement p ≡ p
placement_erased (node n) = ap node (node_erased n)
placement_erased (channel c) = refl
placement_erased (script s) = ap script (script_erased s)

invariant_erased : (v : SourceInvariant) → erase_invariant v ≡ v
invariant_erased v = λ i. record { name = v.name; term = term_erased v.term i }

-- whole texts
pub text_erased : (t : SourceText) → erase t ≡ t
text_erased t = λ i. record {
  declarations = each erase_declaration declaration_erased t.declarations i;
  system = each erase_placement placement_erased t.system i;
  invariants = each erase_invariant invariant_erased t.invariants i;
}
