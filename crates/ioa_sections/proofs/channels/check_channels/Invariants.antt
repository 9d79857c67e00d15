use Rattle.std.proofs.Common.{◌≡◌, drop}
use Rattle.ioa_sections.specs.Channels.{all_channels_at}
use Rattle.ioa_sections.proofs.channels.check_channels.Given as goal

-- the channels that are left decide
abbrev pub invariant-loop-channel : goal.invariant-loop-channel
invariant-loop-channel l =
    all_channels_at l.programs.items l.channels ≡ all_channels_at l.programs.items (drop l.channel-index l.channels)
