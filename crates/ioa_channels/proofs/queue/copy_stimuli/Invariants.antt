use Rattle.std.proofs.Common.{◌≡◌, take}
use Rattle.ioa_channels.proofs.queue.copy_stimuli.Given as goal

-- the copies so far are the stimuli gone by
abbrev pub invariant-loop-stimulus : goal.invariant-loop-stimulus
invariant-loop-stimulus l = l.copied.items ≡ take l.stimulus-index l.stimuli
