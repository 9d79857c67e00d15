-- What a queue has handed out of what it held and of what was put in.
use Rattle.std.specs.Prelude.{◌≡◌, ℕ, suc, if◌then◌else◌, List, [], ◌∷◌, ◌++◌, map}
use Rattle.ioa_values.specs.Data.{Data}
use Rattle.ioa_actions.specs.declared.component.ChannelKind.{ChannelKind}
use Rattle.ioa_actions.specs.declared.component.ChannelKind.TheVariants.{Ordered, Unordered}
use Rattle.ioa_channels.specs.declared.queue.Item.{Item}
use Rattle.ioa_channels.specs.declared.queue.Item.TheVariants.{Message}
use Rattle.ioa_channels.specs.Queues.{same_item}

-- how often an item is among items
abbrev pub number_of : Item → List Item → ℕ
number_of x [] = 0
number_of x (y ∷ more) = if same_item x y then suc (number_of x more) else number_of x more

-- of what a queue held and what was sent then, some was received and the rest is left: a first part was received, in
-- order (Lynch 14.1); of a queue that keeps no order, each item was received and is left as often as it was held and
-- sent (profile)
abbrev pub IsHandedOut : ChannelKind → List Item → List Data → List Data → List Item → Type 0
IsHandedOut Ordered held sent received left = held ++ map Message sent ≡ map Message received ++ left
IsHandedOut Unordered held sent received left =
    (x : Item) → number_of x (held ++ map Message sent) ≡ number_of x (map Message received ++ left)
