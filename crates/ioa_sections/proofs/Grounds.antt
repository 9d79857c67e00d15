-- Terms, values and automata that were made have what their readers ask for.
use Rattle.std.proofs.Common.{◌≡◌, ℕ, suc, ◌+◌, Bool, false, List, [], ◌∷◌, ◌++◌, Some, sym, ap, subst, ◌∙◌, map, length, arith}
use Rattle.std.specs.Prelude.{find}
use Rattle.std.specs.List.{AllByRecursion, list_any}
use Rattle.ioa_values.specs.Data.{Data}
use Rattle.ioa_values.specs.Outcome.{and_then}
use Rattle.ioa_operators.specs.Shapes.{PlainShape}
use Rattle.ioa_terms.specs.Bindings.{Bindings, same_word}
use Rattle.ioa_terms.specs.declared.name.Name.TheVariants.{Word}
use Rattle.ioa_terms.specs.Resolved.{IsResolved}
use Rattle.ioa_terms.specs.Sorted.{NameShapes, shape_in_terms}
use Rattle.ioa_source.specs.PlainText.{type_named, automaton}
use Rattle.ioa_source.specs.Sides.{SourceTerm, SourceAutomaton, SourceDeclaration, SourceNode, CheckedTerm, CheckedVariable}
use Rattle.ioa_system.specs.Parts.{AutomatonParts, Parts, PlainRule, rule_named}
use Rattle.ioa_system.specs.ResolvedPrograms.{AreResolvedTerms}
use Rattle.ioa_sort_rules.specs.DeclaredTypes.{TupleTypes, IsDeclared, AreAllDeclared}
use Rattle.ioa_refusals.specs.declared.refusal.Refusal.TheVariants.{Twice}
use Rattle.ioa_sorts.specs.Sorting.{fit, sorting}
use Rattle.ioa_sorts.specs.Statements.{all_ok}
use Rattle.ioa_sorts.proofs.Types.{in_terms}
use Rattle.ioa_sorts.proofs.Sound.{fit_sound}
use Rattle.ioa_types.specs.Meanings.{tuple_types, AreTextTypes}
use Rattle.ioa_names.specs.NameTables.{words}
use Rattle.ioa_names.specs.Views.{AreWords}
use Rattle.ioa_types.specs.TextTypes.{PlainTextTypes}
use Rattle.ioa_sorts.specs.Firings.{arguments_at}
use Rattle.ioa_automata.specs.Automata.{automaton_at}
use Rattle.ioa_sorts.specs.SortedTerms.{AreArgumentsOf}
use Rattle.ioa_automata.proofs.Loops.{results_are}
use Rattle.ioa_automata.proofs.Results.{result_is}
use Rattle.ioa_automata.proofs.DeclaredShapes.{automaton_declared}
use Rattle.ioa_automata.specs.DeclaredShapes.{HasDeclaredShapes}
use Rattle.ioa_sorts.proofs.Lookups.{found_has}
use Rattle.ioa_automata.proofs.SoundRules.{automaton_sound}
use Rattle.ioa_sections.specs.Declarations.{new_automaton_at, automata_at}
use Rattle.ioa_sections.specs.Faults.{in_declaration}
use Rattle.ioa_sections.specs.Grounds.{HaveDeclaredShapes, IsGrounded, AreGrounded, AreGroundedPrograms}
use Rattle.ioa_sections.specs.Nodes.{argument_values, parameter_shapes, value_for, variable_value, variable_values}
use Rattle.ioa_sections.specs.Meant.{AreNodesOf}
use Rattle.ioa_sections.proofs.Results.{checked_is, first_of, within_declaration, is_not_met}

-- an automaton that was made has a new name
pub automaton_new : (t : PlainTextTypes) (names : List (List ℕ)) (a : SourceAutomaton) (c : AutomatonParts) → new_automaton_at t names a ≡ result_is c → (list_any (same_word a.name) names ≡ false) × (automaton_at t a ≡ result_is c)
unfolding new_automaton_at
automaton_new t names a c h = is_not_met (list_any (same_word a.name) names) (automaton_at t a) Twice c h

-- the shapes of an automaton that was made are declared ones
automaton_shapes : (t : PlainTextTypes) → AreTextTypes t → (a : SourceAutomaton) (c : AutomatonParts) → automaton_at t a ≡ result_is c → HasDeclaredShapes (tuple_types t.types) c
automaton_shapes t text a c h = automaton_declared t text a c (automaton_sound t text a c h)

-- so are those of one that is found, and of the automaton of a program that is found
pub one_grounded : (names : NameShapes) (cs : List AutomatonParts) → AreGrounded names cs → (test : AutomatonParts → Bool) (c : AutomatonParts) → find test cs ≡ Some c → IsGrounded names c
one_grounded names cs g test c found = record {
  types = g.types;
  names_declared = g.names_declared;
  shapes_declared = found_has (HasDeclaredShapes g.types) test cs c g.each_declared found;
}

pub program_grounded : (names : NameShapes) (ps : List Parts) → AreGroundedPrograms names ps → (test : Parts → Bool) (p : Parts) → find test ps ≡ Some p → IsGrounded names p.automaton
program_grounded names ps g test p found = record {
  types = g.types;
  names_declared = g.names_declared;
  shapes_declared = found_has (λ (q : Parts). HasDeclaredShapes g.types q.automaton) test ps p g.each_declared found;
}

-- those of its parameters
pub parameters_grounded : (names : NameShapes) (a : AutomatonParts) → IsGrounded names a → HaveDeclaredShapes names (parameter_shapes a)
parameters_grounded names a g = record { types = g.types; names_declared = g.names_declared; shapes_declared = g.shapes_declared.parameters }

-- and those of the arguments of a rule that is found
pub rule_grounded : (names : NameShapes) (a : AutomatonParts) → IsGrounded names a → (w : List ℕ) (r : PlainRule) → rule_named w a.rules ≡ Some r → HaveDeclaredShapes names r.shapes
rule_grounded names a g w r found = record {
  types = g.types;
  names_declared = g.names_declared;
  shapes_declared = found_has (λ (q : PlainRule). AllByRecursion (IsDeclared g.types) q.shapes) (λ (q : PlainRule). same_word q.entry.name w) a.rules r g.shapes_declared.arguments found;
}

-- the automaton of each program is one of these
programs_shapes : (types : TupleTypes) (names : NameShapes) (cs : List AutomatonParts) (ns : List SourceNode) → AllByRecursion (HasDeclaredShapes types) cs → (k : ℕ) (ps : List Parts) → AreNodesOf names cs ns k ps → AllByRecursion (λ p. HasDeclaredShapes types p.automaton) ps
programs_shapes types names cs ns declared k [] h = tt
programs_shapes types names cs ns declared k (p ∷ ps) h =
    (found_has (HasDeclaredShapes types) (λ (c : AutomatonParts). same_word c.name h.0.node.automaton) cs p.automaton declared h.0.automaton, programs_shapes types names cs ns declared (k + 1) ps h.1)

pub programs_grounded : (names : NameShapes) (cs : List AutomatonParts) (ns : List SourceNode) → AreGrounded names cs → (k : ℕ) (ps : List Parts) → AreNodesOf names cs ns k ps → AreGroundedPrograms names ps
programs_grounded names cs ns g k ps h = record {
  types = g.types;
  names_declared = g.names_declared;
  each_declared = programs_shapes g.types names cs ns g.each_declared k ps h;
}

-- the automata of declarations
automata_shapes : (t : PlainTextTypes) → AreTextTypes t → (ds : List SourceDeclaration) (index : ℕ) (names : List (List ℕ)) (cs : List AutomatonParts) → automata_at t index names ds ≡ checked_is cs → AllByRecursion (HasDeclaredShapes (tuple_types t.types)) cs
automata_shapes t text [] index names cs h = let same : [] ≡ cs = cc in subst (AllByRecursion (HasDeclaredShapes (tuple_types t.types))) same tt
automata_shapes t text (type_named d ∷ more) index names cs h = automata_shapes t text more (index + 1) names cs h
automata_shapes t text (automaton a ∷ more) index names cs h =
    let one = first_of (in_declaration index (new_automaton_at t names a)) (λ c. and_then (automata_at t (index + 1) (names ++ a.name ∷ []) more) (λ rest. checked_is (c ∷ rest))) cs h in
    let two = first_of (automata_at t (index + 1) (names ++ a.name ∷ []) more) (λ rest. checked_is (one.0 ∷ rest)) cs one.2 in
    let same : one.0 ∷ two.0 ≡ cs = cc in
    let made = automaton_new t names a one.0 (within_declaration index (new_automaton_at t names a) one.0 one.1) in
    subst (AllByRecursion (HasDeclaredShapes (tuple_types t.types))) same (automaton_shapes t text a one.0 made.1, automata_shapes t text more (index + 1) (names ++ a.name ∷ []) two.0 two.1)

pub grounded : (t : PlainTextTypes) → AreTextTypes t → (ds : List SourceDeclaration) (index : ℕ) (names : List (List ℕ)) (cs : List AutomatonParts) → automata_at t index names ds ≡ checked_is cs → AreGrounded t.constants cs
grounded t text ds index names cs h = record {
  types = tuple_types t.types;
  names_declared = text.constants;
  each_declared = automata_shapes t text ds index names cs h;
}

-- arguments have the shapes of the parameters
pub arguments_meant : (types : TupleTypes) (names : NameShapes) → AreAllDeclared types names → (ss : List PlainShape) (us : List SourceTerm) (ts : List CheckedTerm) → AllByRecursion (IsDeclared types) ss → arguments_at names ss us ≡ results_are ts → AreArgumentsOf names ss us ts
arguments_meant types names all [] [] ts d h = let same : [] ≡ ts = cc in subst (AreArgumentsOf names [] []) same tt
arguments_meant types names all [] (u ∷ us) ts d h = absurd (cc)
arguments_meant types names all (s ∷ ss) [] ts d h = absurd (cc)
arguments_meant types names all (s ∷ ss) (u ∷ us) ts d h =
    let one = first_of (fit (sorting names u) (shape_in_terms s)) (λ c. and_then (arguments_at names ss us) (λ cs. results_are (c ∷ cs))) ts h in
    let two = first_of (arguments_at names ss us) (λ cs. results_are (one.0 ∷ cs)) ts one.2 in
    let same : one.0 ∷ two.0 ≡ ts = cc in
    subst (AreArgumentsOf names (s ∷ ss) (u ∷ us)) same (fit_sound types names all u (shape_in_terms s) (in_terms types s d.0) one.0 (sym one.1), arguments_meant types names all ss us two.0 d.1 two.1)

-- and slots among the names, if all are words
meant_resolved : (names : NameShapes) → AreWords names → (ss : List PlainShape) (us : List SourceTerm) (ts : List CheckedTerm) → AreArgumentsOf names ss us ts → AreResolvedTerms ts (map Word (words names))
meant_resolved names w [] [] [] h = tt
meant_resolved names w [] [] (c ∷ cs) h = absurd h
meant_resolved names w [] (u ∷ us) ts h = absurd h
meant_resolved names w (s ∷ ss) [] ts h = absurd h
meant_resolved names w (s ∷ ss) (u ∷ us) [] h = absurd h
meant_resolved names w (s ∷ ss) (u ∷ us) (c ∷ cs) h = (subst (λ ns. IsResolved c ns) w h.0.resolved, meant_resolved names w ss us cs h.1)

pub arguments_resolved : (names : NameShapes) → AreWords names → (ss : List PlainShape) (us : List SourceTerm) (ts : List CheckedTerm) → HaveDeclaredShapes names ss → arguments_at names ss us ≡ results_are ts → AreResolvedTerms ts (map Word (words names))
arguments_resolved names w ss us ts d h = meant_resolved names w ss us ts (arguments_meant d.types names d.names_declared ss us ts d.shapes_declared h)

-- how many there are
pub as_many_arguments : (names : NameShapes) (ss : List PlainShape) (us : List SourceTerm) (ts : List CheckedTerm) → arguments_at names ss us ≡ results_are ts → length ts ≡ length ss
as_many_arguments names [] [] ts h = let same : [] ≡ ts = cc in ap length (sym same)
as_many_arguments names [] (u ∷ us) ts h = absurd (cc)
as_many_arguments names (s ∷ ss) [] ts h = absurd (cc)
as_many_arguments names (s ∷ ss) (u ∷ us) ts h =
    let one = first_of (fit (sorting names u) (shape_in_terms s)) (λ c. and_then (arguments_at names ss us) (λ cs. results_are (c ∷ cs))) ts h in
    let two = first_of (arguments_at names ss us) (λ cs. results_are (one.0 ∷ cs)) ts one.2 in
    let same : one.0 ∷ two.0 ≡ ts = cc in
    ap length (sym same) ∙ ap suc (as_many_arguments names ss us two.0 two.1)

values_for_terms : (e : Bindings) (ss : List PlainShape) (ts : List CheckedTerm) (vs : List Data) → length ts ≡ length ss → argument_values e ss ts ≡ results_are vs → length vs ≡ length ss
values_for_terms e ss [] vs many h = let same : [] ≡ vs = cc in ap length (sym same) ∙ many
values_for_terms e [] (t ∷ ts) vs many h = let same : [] ≡ vs = cc in ap length (sym same)
values_for_terms e (s ∷ ss) (t ∷ ts) vs many h =
    let one = first_of (value_for e s t) (λ v. and_then (argument_values e ss ts) (λ us. results_are (v ∷ us))) vs h in
    let two = first_of (argument_values e ss ts) (λ us. results_are (one.0 ∷ us)) vs one.2 in
    let same : one.0 ∷ two.0 ≡ vs = cc in
    ap length (sym same) ∙ ap suc (values_for_terms e ss ts two.0 (omega (arith, many)) two.1)

pub as_many_values : (e : Bindings) (ss : List PlainShape) (ts : List CheckedTerm) (vs : List Data) → argument_values e ss ts ≡ results_are vs → length ts ≡ length ss → length vs ≡ length ss
as_many_values e ss ts vs h many = values_for_terms e ss ts vs many h

pub as_many_variables : (e : Bindings) (vs : List CheckedVariable) (ds : List Data) → variable_values e vs ≡ results_are ds → length ds ≡ length vs
as_many_variables e [] ds h = let same : [] ≡ ds = cc in ap length (sym same)
as_many_variables e (v ∷ vs) ds h =
    let one = first_of (variable_value e v) (λ d. and_then (all_ok (map (variable_value e) vs)) (λ more. results_are (d ∷ more))) ds h in
    let two = first_of (all_ok (map (variable_value e) vs)) (λ more. results_are (one.0 ∷ more)) ds one.2 in
    let same : one.0 ∷ two.0 ≡ ds = cc in
    ap length (sym same) ∙ ap suc (as_many_variables e vs two.0 two.1)
