use Rattle.std.proofs.Common.{◌≡◌, ◌++◌, map, take}
use Rattle.ioa_compose.specs.Start.{channel_start}
use Rattle.ioa_compose.proofs.starting.start_channels.Given as goal

-- what was there, and the starts of what is gone by
abbrev pub invariant-loop-channel : goal.invariant-loop-channel
invariant-loop-channel l = l.confs.items ≡ l.initial.confs.items ++ map channel_start (take l.channel-index l.channels)
