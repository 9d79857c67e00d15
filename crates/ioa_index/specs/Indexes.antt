-- The index of a list of components: where each name stands first, and the slots of what a node has to do with (form).
use Rattle.std.specs.Prelude.{◌≡◌, ℤ, Bool, ◌||◌, List, Option, Some, is_some, map, find, slice_get, ℕ}
use Rattle.std.specs.List.{AllByRecursion, list_any, position_from, position_or_len}
use Rattle.std.specs.Ordering.{int_eq}
use Rattle.ioa_actions.specs.declared.component.Component.{Component}
use Rattle.ioa_actions.specs.declared.component.Component.TheVariants.{Node}
use Rattle.ioa_actions.specs.ComponentOrder.{same_component}
use Rattle.ioa_index.specs.Own.{concerns, own_slots}
use Rattle.ioa_index.specs.declared.index.NodeSlots.{NodeSlots}

-- the first slot in which a component stands, or the number of slots if it stands in none
abbrev pub first_of : List Component → Component → ℕ
first_of ks k = position_or_len (λ c. same_component k c) ks

-- whether a node is one of these components
abbrev pub has_node : ℤ → List Component → Bool
has_node n ks = is_some (position_from (λ k. same_component (Node n) k) 0 ks)

-- the slots of an entry are those of the components that its node has to do with, and it says whether the node is one
pub record IsOwn (ks : List Component) (e : NodeSlots) : Type 0 where
  pub slots : e.slots.items ≡ own_slots e.node 0 ks
  pub there : e.is_there ≡ has_node e.node ks

-- the entry of a node, if there is one
abbrev pub entry_of : ℤ → List NodeSlots → Option NodeSlots
entry_of n entries = find (λ e. int_eq e.node n) entries

-- whether there is one
abbrev pub has_entry : ℤ → List NodeSlots → Bool
has_entry n entries = list_any (λ e. int_eq e.node n) entries

-- whether a node has to do with one of these components
abbrev pub is_concerned : ℤ → List Component → Bool
is_concerned n ks = list_any (λ k. concerns n k) ks

-- entries that are added are as they should be, and are of the nodes that pass a test
pub record AddsEntries (ks : List Component) (test : ℤ → Bool) (old new : List NodeSlots) : Type 0 where
  pub kept : AllByRecursion (IsOwn ks) old → AllByRecursion (IsOwn ks) new
  pub added : (n : ℤ) → has_entry n new ≡ (has_entry n old || test n)

-- each entry is as it should be, and each node that has to do with one of the first of the components has one
pub record AreEntries (ks first : List Component) (entries : List NodeSlots) : Type 0 where
  pub own : AllByRecursion (IsOwn ks) entries
  pub complete : (n : ℤ) → has_entry n entries ≡ is_concerned n first

-- a component that stands in a slot stands in none before it
abbrev pub IsFirst : List Component → ℕ → Type 0
IsFirst ks slot =
    (k : Component) → slice_get ks slot ≡ Some k → position_from (λ c. same_component k c) 0 ks ≡ Some slot

-- the law of an index
pub record IsIndexed (ks : List Component) (firsts : List ℕ) (entries : List NodeSlots) : Type 0 where
  pub first_slots : firsts ≡ map (λ k. first_of ks k) ks
  pub by_node : AreEntries ks ks entries
