use Rattle.std.proofs.Common.{◌≡◌, [], take, drop}
use Rattle.ioa_system.specs.Declarations.{same_channel}
use Rattle.ioa_sections.specs.Distinct.{differ_from}
use Rattle.ioa_sections.proofs.channels.are_new_channels.Given as goal

-- the channels that are left decide
abbrev pub invariant-loop-position : goal.invariant-loop-position
invariant-loop-position l =
    differ_from same_channel [] l.channels ≡ differ_from same_channel (take l.position l.channels) (drop l.position l.channels)
