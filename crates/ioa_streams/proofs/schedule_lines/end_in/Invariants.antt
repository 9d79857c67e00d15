use Rattle.std.proofs.Common.{◌≡◌, drop}
use Rattle.ioa_streams.specs.ScheduleParts.{end_from, end_in}
use Rattle.ioa_streams.proofs.schedule_lines.end_in.Given as goal

abbrev pub invariant-loop-place : goal.invariant-loop-place
invariant-loop-place l = end_from l.place (drop l.place l.lines) ≡ end_in l.fn.lines
