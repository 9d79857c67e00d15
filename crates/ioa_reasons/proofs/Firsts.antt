-- The first item of a queue.
use Rattle.std.proofs.Common.{◌≡◌, List, [], ◌∷◌, None, refl, slice_get}
use Rattle.ioa_channels.specs.declared.queue.Item.{Item}

-- a queue without a first item has none
pub nothing_first : (xs : List Item) → None ≡ slice_get xs 0 → xs ≡ []
nothing_first [] h = refl
nothing_first (x ∷ xs) h = absurd (cc)
