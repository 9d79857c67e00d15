-- Where the names of invariants read (form): the code looks for each once, at the start.
use Rattle.std.specs.Prelude.{◌≡◌, ℕ, List, [], ◌∷◌, Option, Some, None, map, slice_get}
use Rattle.std.specs.List.{position_from}
use Rattle.std.specs.Option.{option_and_then, option_map}
use Rattle.ioa_values.specs.Data.{Data}
use Rattle.ioa_actions.specs.declared.component.Component.{Component}
use Rattle.ioa_actions.specs.declared.component.Component.TheVariants as component
use Rattle.ioa_actions.specs.ComponentOrder.{same_component}
use Rattle.ioa_terms.specs.Bindings.{slot_in}
use Rattle.ioa_terms.specs.declared.name.Name.{Name}
use Rattle.ioa_terms.specs.declared.name.Name.TheVariants as called
use Rattle.ioa_system.specs.InView.{variable_names}
use Rattle.ioa_system.specs.Invariants.{InvariantParts}
use Rattle.ioa_compose.specs.Composition.{component_names, find_conf}
use Rattle.ioa_compose.specs.Readings.{queue_messages}
use Rattle.ioa_compose.specs.declared.configuration.Conf.{Conf}
use Rattle.ioa_compose.specs.declared.configuration.Conf.TheVariants.{Node, Queue}
use Rattle.ioa_verdicts.specs.declared.places.Place.{Place}
use Rattle.ioa_verdicts.specs.declared.places.Place.TheVariants.{Nowhere, Variable, Messages}

-- the slot of a component
abbrev pub slot_of : Component → List Conf → Option ℕ
slot_of k cs = position_from (λ l. same_component k l) 0 (component_names cs)

-- the position of the variable of a name at a node
abbrev pub variable_position : List ℕ → Option Conf → Option ℕ
variable_position x None = None
variable_position x (Some (Queue q)) = None
variable_position x (Some (Node c)) =
    slot_in (called.Word x) (map called.Word (variable_names c.program.automaton.variables))

-- the place of a variable, by the slot of its node and its position there
abbrev pub variable_place : Option ℕ → Option ℕ → Place
variable_place None n = Nowhere
variable_place (Some m) None = Nowhere
variable_place (Some m) (Some n) = Variable m n

-- the place of the messages in the queue in a slot
abbrev pub queue_place : Option ℕ → Place
queue_place None = Nowhere
queue_place (Some m) = Messages m

-- where a name reads
abbrev pub place_of : Name → List Conf → Place
place_of (called.Word w) cs = Nowhere
place_of (called.Variable x k) cs =
    variable_place (slot_of (component.Node k) cs) (variable_position x (find_conf (component.Node k) cs))
place_of (called.Queue i j) cs = queue_place (slot_of (component.Channel i j) cs)

-- where the names of an invariant read
abbrev pub places_of : InvariantParts → List Conf → List Place
places_of v cs = map (λ x. place_of x cs) v.readings

-- these are the places where the names of invariants read
abbrev pub ArePlaces : List (List Place) → List InvariantParts → List Conf → Type 0
ArePlaces places vs cs = places ≡ map (λ v. places_of v cs) vs

-- the value of the state variable at a position
abbrev pub variable_in : ℕ → Conf → Option Data
variable_in n (Node c) = slice_get c.variables n
variable_in n (Queue q) = None

-- what is read at a place
abbrev pub reading_at : Place → List Conf → Option Data
reading_at Nowhere cs = None
reading_at (Variable m n) cs = option_and_then (variable_in n) (slice_get cs m)
reading_at (Messages m) cs = option_and_then queue_messages (slice_get cs m)

-- what is read at several places, if something is at each
abbrev pub readings_at : List Place → List Conf → Option (List Data)
readings_at [] cs = Some []
readings_at (p ∷ ps) cs = option_and_then (λ v. option_map (λ vs. v ∷ vs) (readings_at ps cs)) (reading_at p cs)
