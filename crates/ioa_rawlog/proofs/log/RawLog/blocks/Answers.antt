use Rattle.std.proofs.Common.{sym, subst, ◌∙◌, ap}
use Rattle.std.specs.Int.{div_ceil}
use Rattle.std.specs.List.{AllByRecursion}
use Rattle.ioa_rawlog.specs.Blocks.{IsFilled}
use Rattle.ioa_rawlog.proofs.Laying.{laid_count, laid_filled}
use Rattle.ioa_rawlog.proofs.log.RawLog.blocks.Goals as goal

pub all-requires : goal.all-requires
all-requires g c =
    let laid = c.self.invariant in
    c.div_ceil.ensures ∙ ap (λ n. div_ceil n 64) laid.1 ∙ laid_count c.self.inside.nodes.items laid.0

pub returns-clause-filled : goal.returns-clause-filled
returns-clause-filled g c = subst (AllByRecursion IsFilled) (sym c.all.ensures) (laid_filled c.self.inside.nodes.items c.self.invariant.0)
