-- An automaton of a text with slots and shapes (profile).
use Rattle.std.specs.Prelude.{ℕ, List, ◌++◌, Result, Ok, map, length}
use Rattle.ioa_values.specs.Outcome.{and_then}
use Rattle.ioa_terms.specs.Sorted.{NameShapes}
use Rattle.ioa_source.specs.Sides.{SourceAutomaton, CheckedDeclared, CheckedSchedule, CheckedVariable}
use Rattle.ioa_system.specs.Parts.{AutomatonParts, PlainRule, automaton_parts}
use Rattle.ioa_refusals.specs.declared.refusal.Refusal.{Refusal}
use Rattle.ioa_names.specs.NameTables.{words}
use Rattle.ioa_types.specs.TextTypes.{PlainTextTypes}
use Rattle.ioa_automata.specs.NamesInView.{given_names_or, outer_names_or}
use Rattle.ioa_automata.specs.Parts.{all_declared_at, variables_at}
use Rattle.ioa_automata.specs.Rules.{PlainSurroundings, rules_at, names_or, have_entries}
use Rattle.ioa_automata.specs.Schedules.{schedule_at}

-- the parameters and the state variables of an automaton, the names of the parameters, and the names of both
pub record PlainHeading : Type 0 where
  pub parameters : List CheckedDeclared
  pub variables : List CheckedVariable
  pub given : NameShapes
  pub outer : NameShapes

unfoldable pub heading_at : PlainTextTypes → SourceAutomaton → Result PlainHeading Refusal
heading_at t a = and_then (all_declared_at t.types a.parameters)
    (λ ps. and_then (given_names_or t.constants ps)
    (λ given. and_then (variables_at t.types (given ++ t.constants) a.states)
    (λ vs. and_then (outer_names_or t.constants ps vs)
    (λ outer. Ok (record { parameters = ps; variables = vs; given = given; outer = outer })))))

-- what its entries read
abbrev pub surroundings : PlainTextTypes → PlainHeading → PlainSurroundings
surroundings t h = record {
  constants = t.constants;
  types = t.types;
  given = h.given;
  outer = h.outer;
  variables = length h.variables;
}

-- its entries with their transitions
unfoldable pub actions_at : PlainSurroundings → SourceAutomaton → Result (List PlainRule) Refusal
actions_at s a = and_then (names_or (map (λ e. e.name) a.signature))
    (λ es. and_then (names_or (map (λ u. u.name) a.transitions))
    (λ us. and_then (have_entries a.signature a.transitions)
    (λ z. rules_at s a.transitions a.signature)))

-- what an automaton has behind its heading
pub record PlainBody : Type 0 where
  pub rules : List PlainRule
  pub schedule : CheckedSchedule

abbrev pub body_at : PlainSurroundings → SourceAutomaton → Result PlainBody Refusal
body_at s a = and_then (actions_at s a)
    (λ rs. and_then (schedule_at s rs a.schedule)
    (λ b. Ok (record { rules = rs; schedule = b })))

-- an automaton with slots and shapes
abbrev pub sorted_automaton : PlainTextTypes → List ℕ → PlainHeading → PlainBody → AutomatonParts
sorted_automaton t w h b = automaton_parts w (words t.constants) h.parameters h.variables b.rules b.schedule

abbrev pub automaton_at : PlainTextTypes → SourceAutomaton → Result AutomatonParts Refusal
automaton_at t a = and_then (heading_at t a)
    (λ h. and_then (body_at (surroundings t h) a) (λ b. Ok (sorted_automaton t a.name h b)))
