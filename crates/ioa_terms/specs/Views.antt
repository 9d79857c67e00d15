-- What terms and statements see: values that the statements may assign, and behind them what is only read (profile).
use Rattle.std.specs.Prelude.{◌≡◌, ◌++◌, ℕ, List, map, take, length}
use Rattle.ioa_values.specs.Data.{Data}
use Rattle.ioa_terms.specs.declared.environment.View.{View}
use Rattle.ioa_terms.specs.declared.name.Name.{Name}
use Rattle.ioa_terms.specs.declared.name.Name.TheVariants.{Word}
use Rattle.ioa_terms.specs.Bindings.{Bindings, environment}
use Rattle.ioa_terms.specs.Inboxes.{lent_values}

-- all names of values in view: that of a value that stands in front, if there is one, and then the others (profile)
abbrev pub all_names : View → List Name
all_names v = map Word v.front.now ++ v.names

-- all values in view, if those that statements may assign are these (profile)
abbrev pub all_values : View → List Data → List Data
all_values v values = values ++ lent_values v.lent

-- each value in view has a name (profile)
abbrev pub IsNamed : View → List Data → Type 0
IsNamed v values = length (all_names v) ≡ length (all_values v values)

-- the environment in which terms are evaluated (profile)
abbrev pub environment_of : View → List Data → Bindings
environment_of v values = environment (all_names v) (all_values v values) v.constants.now

-- the names of the values that statements may assign, if there are so many (profile): the first ones
abbrev pub own_names : View → ℕ → List Name
own_names v count = take count (all_names v)

-- the names in view (profile): those of the values, and those of the constants
abbrev pub names_in_view : View → List Name
names_in_view v = all_names v ++ map Word v.constants.now
