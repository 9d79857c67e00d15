use Rattle.std.proofs.Common.{◌≡◌}
use Rattle.ioa_show.specs.Matching.{matched, nothing_sent}
use Rattle.ioa_show.specs.Traffics.{matching}
use Rattle.ioa_show.proofs.partners.partners.Given as goal

-- from what was gone through the actions that are left lead to the same as all actions from the beginning
abbrev pub invariant-loop-entry : goal.invariant-loop-entry
invariant-loop-entry l = matched l.entry-iterator (matching l.channels.items l.found.items) ≡ matched l.schedule nothing_sent
