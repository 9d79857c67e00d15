-- The configuration in the slot of a component.
use Rattle.std.proofs.Common.{◌≡◌, ℕ, List, [], Some, None, sym}
use Rattle.std.specs.Prelude.{slice_get}
use Rattle.std.specs.List.{position_from}
use Rattle.ioa_actions.specs.declared.component.Component.{Component}
use Rattle.ioa_actions.specs.ComponentOrder.{same_component}
use Rattle.ioa_compose.specs.declared.configuration.Conf.{Conf}
use Rattle.ioa_compose.specs.Composition.{component_of, component_names, find_conf}
use Rattle.ioa_index.proofs.Slots.{position_get, position_none}

-- what stands in the slot of a component is what is found by its name
pub found_at : (k : Component) (cs : List Conf) (m : ℕ) → Some m ≡ position_from (λ l. same_component k l) 0 (component_names cs) → slice_get cs m ≡ find_conf k cs
found_at k cs m h = position_get (λ l. same_component k l) component_of [] cs m (sym h)

-- without a slot nothing is found
pub found_nowhere : (k : Component) (cs : List Conf) → None ≡ position_from (λ l. same_component k l) 0 (component_names cs) → find_conf k cs ≡ None
found_nowhere k cs h = position_none (λ l. same_component k l) component_of 0 cs (sym h)
