use Rattle.std.proofs.Common.{◌≡◌, drop}
use Rattle.ioa_streams.specs.Parts.{mark_from, mark_in}
use Rattle.ioa_streams.proofs.input_parts.mark_in.Given as goal

abbrev pub invariant-loop-place : goal.invariant-loop-place
invariant-loop-place l = mark_from l.fresh l.place (drop l.place l.input) ≡ mark_in l.fn.input
