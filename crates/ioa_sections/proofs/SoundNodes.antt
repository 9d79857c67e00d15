-- The programs of the nodes of a text.
use Rattle.std.proofs.Common.{◌≡◌, ◌≤◌, ℕ, zero, suc, ◌+◌, pos, ℤ, Bool, true, false, not, ◌||◌, nat_le, List, [], ◌∷◌, Option, Some, None, Result, Ok, Err, refl, sym, ap, subst, ◌∙◌, find, length, slice_get, leb-true, arith}
use Rattle.std.specs.List.{AllByRecursion, AllZip, IsDistinct}
use Rattle.std.proofs.lemmas.Bool.{and_parts}
use Rattle.std.proofs.lemmas.Bool.Decides.{Decides-int_eq}
use Rattle.std.proofs.lemmas.Slice.Eq.{bytes_eq-Decides}
use Rattle.ioa_values.specs.Data.{Data, number, truth, constant, tuple, sequence, finite_set, finite_map, as_number}
use Rattle.ioa_values.specs.Outcome.{and_then}
use Rattle.ioa_operators.specs.Shapes.{PlainShape, has_shape}
use Rattle.ioa_operators.specs.declared.fault.TermFault.{TermFault}
use Rattle.ioa_terms.specs.Bindings.{Bindings, same_word}
use Rattle.ioa_terms.specs.Meaning.{answer}
use Rattle.ioa_terms.specs.Sorted.{NameShapes}
use Rattle.ioa_actions.specs.ActionParts.{send_name, receive_name}
use Rattle.ioa_source.specs.PlainText.{const, named}
use Rattle.ioa_source.specs.Sides.{SourceNode, SourcePlacement, SourceTerm, CheckedParameter, CheckedTerm, CheckedVariable}
use Rattle.ioa_system.specs.InView.{given_bindings}
use Rattle.ioa_system.specs.Parts.{AutomatonParts, Parts, PlainRule, parts}
use Rattle.ioa_refusals.specs.declared.refusal.Refusal.TheVariants.{Twice, Limit, BadArgument}
use Rattle.ioa_sorts.specs.Firings.{arguments_at}
use Rattle.ioa_automata.proofs.Loops.{results_are}
use Rattle.ioa_automata.proofs.Results.{result_is, all_ok_each, zip_weaker}
use Rattle.ioa_sections.specs.declared.nodes.TheConstants.{MOST_NODES}
use Rattle.ioa_sections.specs.Distinct.{differ_from}
use Rattle.ioa_sections.specs.Sections.{nodes_in}
use Rattle.ioa_sections.specs.Grounds.{HaveDeclaredShapes, AreGrounded}
use Rattle.ioa_sections.specs.Nodes.{at_most, has_number, same_number, nodes_or, nodes_at, automaton_named, automaton_or, value_or, fitting_or, value_for, constant_bindings, argument_values, given_at, initial_value, variable_value, variable_values, constant_at, constants_at, is_number_of, gives_number, is_constant_of, is_at_home, home_at, entry_on, entries_on, start_values, program_of, parameter_shapes, program_with, node_program, program_at, programs_from}
use Rattle.ioa_sections.specs.Meant.{IsValueFor, AreValuesFor, IsInitialValue, HasValue, IsConstantOf, IsEntryOn, IsProgramOf, IsNodeOf, AreNodesOf}
use Rattle.ioa_sections.proofs.Results.{first_of, is_passed, result_same}
use Rattle.ioa_sections.proofs.Apart.{new_differ}
use Rattle.ioa_sections.proofs.Grounds.{arguments_meant, as_many_arguments, one_grounded, parameters_grounded}

-- lists that are not too long
pub few_sound : {A : Type 0} (most : ℕ) (xs ys : List A) → at_most most xs ≡ result_is ys → (xs ≡ ys) × (length xs ≤ most)
unfolding at_most
few_sound most xs ys h =
    let test = is_passed (nat_le (length xs) most) (result_is xs) Limit ys h in
    (result_same xs ys test.1, leb-true (length xs) most test.0)

-- nodes
numbers_sound : (ns ms : List SourceNode) → nodes_or ns ≡ result_is ms → (ns ≡ ms) × IsDistinct same_number ns
unfolding nodes_or
numbers_sound ns ms h =
    let test = is_passed (differ_from same_number [] ns) (result_is ns) Twice ms h in
    (result_same ns ms test.1, (new_differ same_number [] ns test.0).1)

pub record AreNodesIn (ps : List SourcePlacement) (ns : List SourceNode) : Type 0 where
  pub same : nodes_in ps ≡ ns
  pub few : length (nodes_in ps) ≤ MOST_NODES
  pub differ : IsDistinct same_number (nodes_in ps)

pub nodes_sound : (ps : List SourcePlacement) (ns : List SourceNode) → nodes_at ps ≡ result_is ns → AreNodesIn ps ns
nodes_sound ps ns h =
    let one = first_of (at_most MOST_NODES (nodes_in ps)) nodes_or ns h in
    let few = few_sound MOST_NODES (nodes_in ps) one.0 one.1 in
    let differ = numbers_sound one.0 ns one.2 in
    record { same = few.0 ∙ differ.0; few = few.1; differ = subst (IsDistinct same_number) (sym few.0) differ.1 }

-- values
abbrev answer_is : Data → Result Data TermFault
answer_is v = Ok v

value_found : (r : Result Data TermFault) (v : Data) → value_or r ≡ result_is v → r ≡ answer_is v
unfolding value_or
value_found (Ok w) v h = let same : w ≡ v = cc in ap answer_is same
value_found (Err f) v h = absurd (cc)

fitting_sound : (s : PlainShape) (v w : Data) → fitting_or s v ≡ result_is w → (v ≡ w) × (has_shape s v ≡ true)
unfolding fitting_or
fitting_sound s v w h =
    let test = is_passed (has_shape s v) (result_is v) BadArgument w h in (result_same v w test.1, test.0)

value_sound : (e : Bindings) (s : PlainShape) (t : CheckedTerm) (v : Data) → value_for e s t ≡ result_is v → IsValueFor e s t v
value_sound e s t v h =
    let one = first_of (value_or (answer t e)) (fitting_or s) v h in
    let fits = fitting_sound s one.0 v one.2 in
    record { value = value_found (answer t e) one.0 one.1 ∙ ap answer_is fits.0; shape = subst (λ w. has_shape s w ≡ true) fits.0 fits.1 }

pub values_sound : (e : Bindings) (ss : List PlainShape) (ts : List CheckedTerm) (vs : List Data) → length ts ≡ length ss → argument_values e ss ts ≡ results_are vs → AreValuesFor e ss ts vs
values_sound e [] [] vs many h = let same : [] ≡ vs = cc in subst (AreValuesFor e [] []) same tt
values_sound e [] (t ∷ ts) vs many h = absurd (omega (arith, many))
values_sound e (s ∷ ss) [] vs many h = absurd (omega (arith, many))
values_sound e (s ∷ ss) (t ∷ ts) vs many h =
    let one = first_of (value_for e s t) (λ v. and_then (argument_values e ss ts) (λ us. results_are (v ∷ us))) vs h in
    let two = first_of (argument_values e ss ts) (λ us. results_are (one.0 ∷ us)) vs one.2 in
    let same : one.0 ∷ two.0 ≡ vs = cc in
    subst (AreValuesFor e (s ∷ ss) (t ∷ ts)) same (value_sound e s t one.0 one.1, values_sound e ss ts two.0 (omega (arith, many)) two.1)

initial_sound : (e : Bindings) (s : PlainShape) (o : Option CheckedTerm) (d : Data) → initial_value e s o ≡ result_is d → (t : CheckedTerm) × (o ≡ Some t) × IsValueFor e s t d
unfolding initial_value
initial_sound e s None d h = absurd (cc)
initial_sound e s (Some t) d h = (t, refl, value_sound e s t d h)

variables_sound : (e : Bindings) (vs : List CheckedVariable) (ds : List Data) → variable_values e vs ≡ results_are ds → AllZip (IsInitialValue e) vs ds
variables_sound e vs ds h = zip_weaker (λ v d. variable_value e v ≡ result_is d) (IsInitialValue e) (λ v d k. initial_sound e v.declared.shape v.initial d k) vs ds (all_ok_each (variable_value e) vs ds h)

-- constants of entries
constant_sound : (e : Bindings) (p : CheckedParameter) (x : Unit {0}) → constant_at e p ≡ result_is x → HasValue e p
unfolding constant_at
constant_sound e (const t) x h =
    let one = first_of (value_or (answer t e)) (λ v. result_is tt) x h in (one.0, value_found (answer t e) one.0 one.1)
constant_sound e (named d) x h = tt

constants_sound : (e : Bindings) (ps : List CheckedParameter) (x : Unit {0}) → constants_at e ps ≡ result_is x → AllByRecursion (HasValue e) ps
constants_sound e [] x h = tt
constants_sound e (p ∷ ps) x h =
    let one = first_of (constant_at e p) (λ y. constants_at e ps) x h in
    (constant_sound e p one.0 one.1, constants_sound e ps x one.2)

number_is : (k : ℤ) (o : Option ℤ) → is_number_of k o ≡ true → o ≡ Some k
number_is k None h = absurd (cc)
number_is k (Some n) h = ap Some ((Decides-int_eq n k).0 h)

data_is : (v : Data) (k : ℤ) → as_number v ≡ Some k → v ≡ number k
data_is (number n) k h = let same : n ≡ k = cc in ap number same
data_is (truth b) k h = absurd (cc)
data_is (constant c) k h = absurd (cc)
data_is (tuple ds) k h = absurd (cc)
data_is (sequence ds) k h = absurd (cc)
data_is (finite_set ds) k h = absurd (cc)
data_is (finite_map es) k h = absurd (cc)

pub number_given : (k : ℤ) (r : Result Data TermFault) → gives_number k r ≡ true → r ≡ Ok (number k)
number_given k (Ok v) h = ap answer_is (data_is v k (number_is k (as_number v) h))
number_given k (Err f) h = absurd (cc)

constant_of : (e : Bindings) (k : ℤ) (o : Option CheckedParameter) → is_constant_of e k o ≡ true → IsConstantOf e k o
constant_of e k None h = absurd (cc)
constant_of e k (Some (const t)) h = (t, refl, number_given k (answer t e) h)
constant_of e k (Some (named d)) h = absurd (cc)

-- entries
implied : (b c : Bool) → (not b || c) ≡ true → b ≡ true → c ≡ true
implied true c h p = h
implied false c h p = absurd (cc)

home_sound : (e : Bindings) (k : ℤ) (r : PlainRule) (x : Unit {0}) → home_at e k r ≡ result_is x → is_at_home e k r ≡ true
unfolding home_at
home_sound e k r x h = (is_passed (is_at_home e k r) (result_is tt) BadArgument x h).0

entry_sound : (e : Bindings) (k : ℤ) (r : PlainRule) (x : Unit {0}) → entry_on e k r ≡ result_is x → IsEntryOn e k r
entry_sound e k r x h =
    let one = first_of (constants_at e r.entry.parameters) (λ y. home_at e k r) x h in
    let sends = same_word r.entry.name send_name in
    let receives = same_word r.entry.name receive_name in
    let sender = is_constant_of e k (slice_get r.entry.parameters 1) in
    let receiver = is_constant_of e k (slice_get r.entry.parameters 2) in
    let home = and_parts (not sends || sender) (not receives || receiver) (home_sound e k r x one.2) in
    record {
      constants = constants_sound e r.entry.parameters one.0 one.1;
      send = λ w. constant_of e k (slice_get r.entry.parameters 1) (implied sends sender home.0 ((bytes_eq-Decides r.entry.name send_name).1 w));
      receive = λ w. constant_of e k (slice_get r.entry.parameters 2) (implied receives receiver home.1 ((bytes_eq-Decides r.entry.name receive_name).1 w));
    }

entries_sound : (e : Bindings) (k : ℤ) (rs : List PlainRule) (x : Unit {0}) → entries_on e k rs ≡ result_is x → AllByRecursion (IsEntryOn e k) rs
entries_sound e k [] x h = tt
entries_sound e k (r ∷ rs) x h =
    let one = first_of (entry_on e k r) (λ y. entries_on e k rs) x h in
    (entry_sound e k r one.0 one.1, entries_sound e k rs x one.2)

-- programs
record IsMadeOf (names : NameShapes) (k : ℤ) (us : List SourceTerm) (a : AutomatonParts) (p : Parts) : Type 0 where
  number : p.node ≡ k
  automaton : p.automaton ≡ a
  program : IsProgramOf names us p

program_sound : (names : NameShapes) (k : ℤ) (us : List SourceTerm) (a : AutomatonParts) (p : Parts) → HaveDeclaredShapes names (parameter_shapes a) → program_with names k us a ≡ result_is p → IsMadeOf names k us a p
unfolding program_with given_at program_of start_values
program_sound names k us a p ground h =
    let ss = parameter_shapes a in
    let one = first_of (given_at names ss us) (program_of k a) p h in
    let two = first_of (arguments_at names ss us) (argument_values (constant_bindings names) ss) one.0 one.1 in
    let three = first_of (start_values k a one.0) (λ vs. and_then (variable_values (given_bindings a one.0) a.schedule.variables) (λ bs. result_is (parts k a one.0 vs bs))) p one.2 in
    let five = first_of (variable_values (given_bindings a one.0) a.schedule.variables) (λ bs. result_is (parts k a one.0 three.0 bs)) p three.2 in
    let four = first_of (entries_on (given_bindings a one.0) k a.rules) (λ x. variable_values (given_bindings a one.0) a.variables) three.0 three.1 in
    let same : parts k a one.0 three.0 five.0 ≡ p = cc in
    subst (IsMadeOf names k us a) {x = parts k a one.0 three.0 five.0} same (record {
      number = refl;
      automaton = refl;
      program = record {
        arguments = two.0;
        sorted = arguments_meant ground.types names ground.names_declared ss us two.0 ground.shapes_declared two.1;
        given = values_sound (constant_bindings names) ss two.0 one.0 (as_many_arguments names ss us two.0 two.1) two.2;
        initial = variables_sound (given_bindings a one.0) a.variables three.0 four.2;
        block = variables_sound (given_bindings a one.0) a.schedule.variables five.0 five.1;
        entries = entries_sound (given_bindings a one.0) k a.rules four.0 four.1;
      };
    })

automaton_found : (o : Option AutomatonParts) (a : AutomatonParts) → automaton_or o ≡ result_is a → o ≡ Some a
unfolding automaton_or
automaton_found None a h = absurd (cc)
automaton_found (Some b) a h = ap Some (result_same b a h)

node_found : (names : NameShapes) (cs : List AutomatonParts) (k : ℤ) (o : Option SourceNode) (p : Parts) → program_at names cs k o ≡ result_is p → (n : SourceNode) × (o ≡ Some n) × (node_program names cs k n ≡ result_is p)
unfolding program_at
node_found names cs k None p h = absurd (cc)
node_found names cs k (Some n) p h = (n, refl, h)

node_sound : (names : NameShapes) (cs : List AutomatonParts) (ns : List SourceNode) (k : ℕ) (p : Parts) → AreGrounded names cs → program_at names cs (pos k) (find (has_number (pos k)) ns) ≡ result_is p → IsNodeOf names cs ns k p
node_sound names cs ns k p ground h =
    let one = node_found names cs (pos k) (find (has_number (pos k)) ns) p h in
    let two = first_of (automaton_or (automaton_named one.0.automaton cs)) (program_with names (pos k) one.0.arguments) p one.2 in
    let called = automaton_found (automaton_named one.0.automaton cs) two.0 two.1 in
    let declared = parameters_grounded names two.0 (one_grounded names cs ground (λ (c : AutomatonParts). same_word c.name one.0.automaton) two.0 called) in
    let made = program_sound names (pos k) one.0.arguments two.0 p declared two.2 in
    record {
      node = one.0;
      declared = one.1;
      number = made.number;
      automaton = called ∙ ap Some (sym made.automaton);
      program = made.program;
    }

abbrev AreAll : NameShapes → List AutomatonParts → List SourceNode → ℕ → ℕ → List Parts → Type 0
AreAll names cs ns k many ps = AreNodesOf names cs ns k ps × (length ps ≡ many)

pub programs_sound : (names : NameShapes) (cs : List AutomatonParts) (ns : List SourceNode) → AreGrounded names cs → (many k : ℕ) (ps : List Parts) → programs_from names cs ns k many ≡ results_are ps → AreNodesOf names cs ns k ps × (length ps ≡ many)
programs_sound names cs ns ground zero k ps h = let same : [] ≡ ps = cc in subst (AreAll names cs ns k zero) same (tt, refl)
programs_sound names cs ns ground (suc many) k ps h =
    let one = first_of (program_at names cs (pos k) (find (has_number (pos k)) ns)) (λ p. and_then (programs_from names cs ns (k + 1) many) (λ qs. results_are (p ∷ qs))) ps h in
    let two = first_of (programs_from names cs ns (k + 1) many) (λ qs. results_are (one.0 ∷ qs)) ps one.2 in
    let same : one.0 ∷ two.0 ≡ ps = cc in
    let rest = programs_sound names cs ns ground many (k + 1) two.0 two.1 in
    subst (AreAll names cs ns k (suc many)) same ((node_sound names cs ns k one.0 ground one.1, rest.0), ap suc rest.1)
