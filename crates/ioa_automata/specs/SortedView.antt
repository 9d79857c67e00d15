-- What the code of sorted automata means (view).
use Rattle.std.specs.Prelude.{List, map}
use Rattle.ioa_source.specs.Sides.{SourceTransition}
use Rattle.ioa_source.specs.TextView.{declared_of, parameter_of, entry_of, transition_of, schedule_of, variable_of}
use Rattle.ioa_automata.specs.declared.parts.SortedParameter.{SortedParameter}
use Rattle.ioa_automata.specs.declared.parts.SortedParameters.{SortedParameters}
use Rattle.ioa_automata.specs.declared.parts.SortedEntry.{SortedEntry}
use Rattle.ioa_automata.specs.declared.rules.Surroundings.{Surroundings}
use Rattle.ioa_automata.specs.declared.rules.Transitions.{Transitions}
use Rattle.ioa_automata.specs.declared.automata.Body.{Body}
use Rattle.ioa_automata.specs.declared.automata.Heading.{Heading}
use Rattle.ioa_automata.specs.Parts.{PlainSortedParameter, sorted_parameter, PlainSortedParameters, sorted_parameters}
use Rattle.ioa_automata.specs.Parts.{PlainSortedEntry}
use Rattle.ioa_automata.specs.Rules.{PlainSurroundings}
use Rattle.ioa_automata.specs.Automata.{PlainBody, PlainHeading}

-- a parameter and its shape
abbrev pub sorted_parameter_of : SortedParameter → PlainSortedParameter
sorted_parameter_of p = sorted_parameter (parameter_of p.parameter) p.shape

-- parameters and their shapes
abbrev pub sorted_parameters_of : SortedParameters → PlainSortedParameters
sorted_parameters_of p = sorted_parameters (map parameter_of p.parameters.items) p.shapes.items

-- an entry and the shapes of its arguments
abbrev pub sorted_entry_of : SortedEntry → PlainSortedEntry
sorted_entry_of e = record { entry = entry_of e.entry; shapes = e.shapes.items }

-- transitions, without the index of their names
abbrev pub transitions_of : Transitions → List SourceTransition
transitions_of t = map transition_of t.items.now.items

-- what entries read
abbrev pub surroundings_of : Surroundings → PlainSurroundings
surroundings_of s = record {
  constants = s.constants.now;
  types = s.types.now;
  given = s.given.now;
  outer = s.outer.now;
  variables = s.variables;
}

-- the parameters and the state variables of an automaton
abbrev pub heading_of : Heading → PlainHeading
heading_of h = record {
  parameters = map declared_of h.parameters.items;
  variables = map variable_of h.variables.items;
  given = h.given;
  outer = h.outer;
}

-- what it has behind them
abbrev pub body_of : Body → PlainBody
body_of b = record { rules = b.rules; schedule = schedule_of b.schedule }
