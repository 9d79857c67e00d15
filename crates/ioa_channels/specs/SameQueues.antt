-- Whether two queues are the same (profile).
use Rattle.std.specs.Prelude.{Bool, ◌&&◌}
use lib.Pointwise.{pointwise}
use denote.Enum.Bare.{sameb}
use Rattle.ioa_actions.specs.contracts.component.ChannelKind as kind
use Rattle.ioa_actions.specs.declared.component.ChannelKind.{ChannelKind}
use Rattle.ioa_actions.specs.ComponentOrder.{same_component}
use Rattle.ioa_channels.specs.Queues.{QueueState, same_item}

abbrev pub same_channel_kind : ChannelKind → ChannelKind → Bool
same_channel_kind = sameb kind.the_type

-- two queues are the same if their components, their kinds and their items are
abbrev pub same_queue : QueueState → QueueState → Bool
same_queue q r =
    same_component q.component r.component && (same_channel_kind q.kind r.kind && pointwise same_item q.items r.items)
