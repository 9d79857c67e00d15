-- Whether there is a node, by the names of what is held.
use Rattle.std.proofs.Common.{◌≡◌, ℕ, Bool, true, false, List, [], ◌∷◌, Option, Some, None, refl, ◌∙◌}
use Rattle.std.specs.Prelude.{◌+◌, cond, is_some}
use Rattle.std.specs.List.{position_from}
use Rattle.std.specs.Option.{option_map}
use Rattle.ioa_actions.specs.ComponentOrder.{same_component}
use Rattle.ioa_actions.specs.declared.component.Component.{Component}
use Rattle.ioa_compose.specs.Composition.{component_names, component_of, find_conf}
use Rattle.ioa_compose.specs.declared.configuration.Conf.{Conf}
use Rattle.ioa_commits.specs.Books.{PlainBook, held_of, states_held}
use Rattle.ioa_commits.specs.Versions.{with_version}

-- a name stands somewhere exactly if a configuration bears it
name_found : (k : Component) (n : ℕ) (cs : List Conf) → is_some (position_from (λ j. same_component k j) n (component_names cs)) ≡ is_some (find_conf k cs)
name_found k n [] = refl
name_found k n (c ∷ cs) = by_test (same_component k (component_of c)) (name_found k (n + 1) cs)
  where
    by_test : (b : Bool) → is_some (position_from (λ j. same_component k j) (n + 1) (component_names cs)) ≡ is_some (find_conf k cs) →
        is_some (cond b (Some n) (position_from (λ j. same_component k j) (n + 1) (component_names cs))) ≡ is_some (cond b (Some c) (find_conf k cs))
    by_test true further = refl
    by_test false further = further

-- and then it is held with its version
pub held_found : (b : PlainBook) (k : Component) → is_some (position_from (λ j. same_component k j) 0 (component_names (states_held b))) ≡ is_some (held_of b k)
held_found b k = name_found k 0 (states_held b) ∙ by_found (find_conf k (states_held b))
  where
    by_found : (o : Option Conf) → is_some o ≡ is_some (option_map (with_version b.log) o)
    by_found None = refl
    by_found (Some c) = refl
