use Rattle.std.proofs.Common.{rules}
use Rattle.ioa_index.specs.Indexes.{first_of}
use Rattle.ioa_index.proofs.Indexes.{next_listed}
use Rattle.ioa_index.proofs.index.first_slots.Goals as goal

pub loop-component-preserved : goal.loop-component-preserved
loop-component-preserved c =
    rw (c.in_ok-push.ensures.items)
    (next_listed (λ k. first_of c.args.components.now k) c.loop-component.firsts.items _ c.args.components.now c.loop-component.component-index _ c.first_of-first.result c.loop-component-test.true (search rules) c.first_of-first.ensures c.loop-component.invariant)
