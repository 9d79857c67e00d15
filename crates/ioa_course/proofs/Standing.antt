-- The slots of components.
use Rattle.std.proofs.Common.{◌≡◌, ℕ, ◌+◌, ◌<◌, Bool, true, false, List, [], ◌∷◌, Option, Some, None, refl, ap, sym, ◌∙◌, get_or, length, set}
use Rattle.std.specs.Prelude.{cond, slice_get}
use Rattle.std.specs.List.{position_from}
use Rattle.std.proofs.lemmas.Option.{slice_get_read}
use Rattle.ioa_actions.specs.ComponentOrder.{same_component}
use Rattle.ioa_actions.specs.declared.component.Component.{Component}
use Rattle.ioa_compose.specs.Composition.{component_names, component_of, find_conf, put_conf}
use Rattle.ioa_compose.specs.declared.configuration.Conf.{Conf}
use Rattle.ioa_compose.proofs.Components.{name_found}
use Rattle.ioa_compose.proofs.Positions.{position-within, put_conf-position}
use Rattle.ioa_index.proofs.Slots.{position_get, position_none}

-- a component's name stands where its configuration does
position_names : (k : Component) (n : ℕ) (cs : List Conf) → position_from (λ j. same_component k j) n (component_names cs) ≡ position_from (λ c. same_component k (component_of c)) n cs
position_names k n [] = refl
position_names k n (c ∷ cs) = ap (λ (o : Option ℕ). cond (same_component k (component_of c)) (Some n) o) (position_names k (n + 1) cs)

-- of a component that stands somewhere a configuration is found
is_found : (k : Component) (n m : ℕ) (cs : List Conf) → position_from (λ j. same_component k j) n (component_names cs) ≡ Some m → (c : Conf) × (find_conf k cs ≡ Some c)
is_found k n m [] h = absurd (cc)
is_found k n m (b ∷ cs) h = by_test (same_component k (component_of b)) h (λ g. is_found k (n + 1) m cs g)
  where
    by_test : (t : Bool) → cond t (Some n) (position_from (λ j. same_component k j) (n + 1) (component_names cs)) ≡ Some m →
        (position_from (λ j. same_component k j) (n + 1) (component_names cs) ≡ Some m → (c : Conf) × (find_conf k cs ≡ Some c)) →
        (c : Conf) × (cond t (Some b) (find_conf k cs) ≡ Some c)
    by_test true g further = (b, refl)
    by_test false g further = further g

-- what stands in the slot of a component
pub record StandsIn (k : Component) (m : ℕ) (cs : List Conf) : Type 0 where
  pub conf : Conf
  pub found : find_conf k cs ≡ Some conf
  pub at : slice_get cs m ≡ Some conf
  pub within : m < length cs

pub stands_in : (k : Component) (m : ℕ) (ks : List Component) (cs : List Conf) → ks ≡ component_names cs → Some m ≡ position_from (λ j. same_component k j) 0 ks → StandsIn k m cs
stands_in k m ks cs names place =
    let at_names : Some m ≡ position_from (λ j. same_component k j) 0 (component_names cs) = rw (← names) place in
    let there = is_found k 0 m cs (sym at_names) in
    record {
      conf = there.0;
      found = there.1;
      at = position_get (λ j. same_component k j) component_of [] cs m (sym at_names) ∙ there.1;
      within = position-within there.0 cs k m (sym (name_found k cs there.0 there.1)) (at_names ∙ position_names k 0 cs);
    }

-- what is read in the slot of a component is its configuration
pub found_at : (k : Component) (m : ℕ) (ks : List Component) (cs : List Conf) (c : Conf) → ks ≡ component_names cs → Some m ≡ position_from (λ j. same_component k j) 0 ks → c ≡ get_or cs m c → find_conf k cs ≡ Some c
found_at k m ks cs c names place read =
    let there = stands_in k m ks cs names place in
    there.found ∙ sym there.at ∙ slice_get_read cs (length cs) m c refl there.within read

-- of a component without a slot nothing is found
pub found_nowhere : (k : Component) (ks : List Component) (cs : List Conf) → ks ≡ component_names cs → None ≡ position_from (λ j. same_component k j) 0 ks → find_conf k cs ≡ None
found_nowhere k ks cs names h = position_none (λ j. same_component k j) component_of 0 cs (rw (← names) (sym h))

-- a configuration is put in the slot of its component
pub put_at : (d : Conf) (m : ℕ) (cs : List Conf) → Some m ≡ position_from (λ j. same_component (component_of d) j) 0 (component_names cs) → set cs m d ≡ put_conf d cs
put_at d m cs place = put_conf-position d cs (component_of d) m refl (place ∙ position_names (component_of d) 0 cs)
