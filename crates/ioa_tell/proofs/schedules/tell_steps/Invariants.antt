use Rattle.std.proofs.Common.{◌≡◌, ◌+◌, length}
use Rattle.ioa_tell.proofs.Replaying.{SoFar}
use Rattle.ioa_tell.proofs.schedules.tell_steps.Given as goal

-- the number counts the entries that are passed, whose steps are told
abbrev pub invariant-loop-entry : goal.invariant-loop-entry
invariant-loop-entry g l = record {
  counted : l.number + length l.entry-iterator ≡ length l.schedule;
  told : SoFar g.T.Tells.hears l.initial.course l.course l.schedule l.entry-iterator l.number l.initial.out l.out;
}
