use Rattle.std.proofs.Common.{◌∙◌, ap, arith}
use Rattle.std.specs.Int.{div_ceil}
use Rattle.ioa_rawlog.proofs.Laying.{laid_count}
use Rattle.ioa_rawlog.proofs.log.RawLog.drop.Goals as goal

pub loop-init : goal.loop-init
loop-init g c =
    let laid = c.self.invariant in
    let count = c.div_ceil-end.ensures ∙ ap (λ n. div_ceil n 64) laid.1 ∙ laid_count c.self.inside.nodes.items laid.0 in
    omega (arith, count)
