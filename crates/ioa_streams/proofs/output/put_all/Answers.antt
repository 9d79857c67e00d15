use Rattle.std.proofs.Common.{arith, rules}
use Rattle.ioa_streams.proofs.Appended.{take-rest}
use Rattle.ioa_streams.proofs.output.put_all.Goals as goal
use Rattle.std.proofs.KnownBytes.{Appends-trans}

-- what went out grows by the bytes that this piece put out
pub loop-sent-preserved : goal.loop-sent-preserved
loop-sent-preserved g c = record {
  well = search rules;
  within = omega (arith, c.in_ok-count.ensures.within);
  sent = rw (← take-rest c.loop-sent.sent c.in_ok-count.count c.args.text.now)
      (Appends-trans _ _ _ _ _ c.loop-sent.invariant.sent c.in_ok-count.ensures.bytes);
}
