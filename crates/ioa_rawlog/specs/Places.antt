-- Where the nodes of a row lie, as a walk over them knows it (form).
use Rattle.core.specs.Prelude.{◌≡◌, ℕ, ◌<◌, ◌≤◌, length}
use Rattle.ioa_rawlog.specs.declared.nodes.Nodes.{Nodes}
use Rattle.ioa_rawlog.specs.declared.nodes.Place.{Place}
use Rattle.ioa_rawlog.specs.Links.{links_of, place_of}

module _ {X A : Type 0} where
  -- there is a node of this index, and it lies at this place
  abbrev pub IsAt : Nodes X A → ℕ → Place → Type 0
  IsAt n index at = (index < length n.items) × (at.pointer ≡ place_of (links_of n.frames) index)

  -- `end` is the number of nodes, and the walk has come to the node of the index `from`, or to the end
  abbrev pub HasComeTo : Nodes X A → ℕ → ℕ → Place → Type 0
  HasComeTo n from end at = (end ≡ length n.items) × (from ≤ end) × (from < end → IsAt n from at)
