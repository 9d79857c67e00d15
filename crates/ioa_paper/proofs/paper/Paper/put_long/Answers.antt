use Rattle.std.proofs.Common.{arith}
use Rattle.ioa_paper.proofs.Papers.{more_taken}
use Rattle.ioa_paper.proofs.paper.Paper.put_long.Goals as goal

pub loop-taken-preserved : goal.loop-taken-preserved
loop-taken-preserved g c = record {
  within = omega (arith, c.put_some-taken.ensures.within);
  text = more_taken c.args.self.now c.loop-taken.self c.put_some-taken.new.self c.loop-taken.taken c.put_some-taken.result
      c.args.piece.now c.loop-taken.invariant.text c.put_some-taken.ensures.text;
}
