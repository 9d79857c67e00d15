-- What is found by slots.
use Rattle.std.proofs.Common.{◌≡◌, ℕ, Bool, true, false, List, [], ◌∷◌, Some, None, refl, sym, subst, ◌∙◌, map}
use Rattle.std.specs.Prelude.{cond, find, slice_get}
use Rattle.std.specs.List.{position_from}
use Rattle.std.specs.Option.{option_map}
use Rattle.ioa_actions.specs.ComponentOrder.{same_component}
use Rattle.ioa_actions.specs.declared.component.Component.{Component}
use Rattle.ioa_transitions.specs.Entries.{PlainEntry}
use Rattle.ioa_compose.specs.Composition.{component_names, component_of, find_conf}
use Rattle.ioa_compose.specs.declared.configuration.Conf.{Conf}
use Rattle.ioa_index.proofs.Slots.{position_get, position_none}
use Rattle.ioa_commits.specs.Versions.{read_component, with_version}

-- what is held of a component is its configuration with its version
held_found : (log : List PlainEntry) (k : Component) (cs : List Conf) → find (λ h. same_component k (read_component h)) (map (with_version log) cs) ≡ option_map (with_version log) (find_conf k cs)
held_found log k [] = refl
held_found log k (c ∷ cs) = by_test (same_component k (component_of c)) (held_found log k cs)
  where
    by_test : (b : Bool) → find (λ h. same_component k (read_component h)) (map (with_version log) cs) ≡ option_map (with_version log) (find_conf k cs) → cond b (Some (with_version log c)) (find (λ h. same_component k (read_component h)) (map (with_version log) cs)) ≡ option_map (with_version log) (cond b (Some c) (find_conf k cs))
    by_test true further = refl
    by_test false further = further

-- the components of what is held are those of the configurations
pub held_components : (log : List PlainEntry) (cs : List Conf) → map read_component (map (with_version log) cs) ≡ component_names cs
held_components log [] = refl
held_components log (c ∷ cs) = λ i. component_of c ∷ held_components log cs i

-- by the slot of a component
pub found_at : (log : List PlainEntry) (k : Component) (cs : List Conf) (m : ℕ) → position_from (λ j. same_component k j) 0 (component_names cs) ≡ Some m → slice_get (map (with_version log) cs) m ≡ option_map (with_version log) (find_conf k cs)
found_at log k cs m h =
    position_get (λ j. same_component k j) read_component [] (map (with_version log) cs) m
    (subst (λ (ks : List Component). position_from (λ j. same_component k j) 0 ks ≡ Some m) (sym (held_components log cs)) h)
    ∙ held_found log k cs

-- and of one that has no slot nothing is held
pub none_found : (log : List PlainEntry) (k : Component) (cs : List Conf) → position_from (λ j. same_component k j) 0 (component_names cs) ≡ None → None ≡ option_map (with_version log) (find_conf k cs)
none_found log k cs h =
    sym (position_none (λ j. same_component k j) read_component 0 (map (with_version log) cs)
    (subst (λ (ks : List Component). position_from (λ j. same_component k j) 0 ks ≡ None) (sym (held_components log cs)) h))
    ∙ held_found log k cs
