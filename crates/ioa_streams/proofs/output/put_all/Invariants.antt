use Rattle.std.proofs.Common.{◌≡◌, ◌≤◌, ◌-◌, false, length, take}
use Rattle.std.specs.Io.KnownBytes.{Appends}
use Rattle.ioa_streams.proofs.output.put_all.Given as goal

-- the first bytes of the text went out, and nothing failed
abbrev pub invariant-loop-sent : goal.invariant-loop-sent
invariant-loop-sent g l = record {
  well : g.O.Out.failed l.out ≡ false;
  within : l.sent ≤ length l.text;
  sent : Appends (g.O.Out.bytes l.initial.out) (g.O.Out.bytes l.out) (take l.sent l.text);
}

-- the bytes that are left
abbrev pub decreases-loop-sent : goal.decreases-loop-sent
decreases-loop-sent g l = length l.text - l.sent
