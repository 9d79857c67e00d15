use Rattle.ioa_values.proofs.ItemKinds.{kind_more}
use Rattle.ioa_values.proofs.item_kind.ItemKind.of_all.Goals as goal

pub loop-value-preserved : goal.loop-value-preserved
loop-value-preserved c =
    rw c.join-kind.ensures
    (kind_more c.loop-value.kind c.of.result c.args.values.now.items c.loop-value.value-index c.value-item.result c.loop-value.invariant c.of.ensures
    (rw (← c.deref-value-items.ensures.value) c.loop-value-test.true) (rw (← c.deref-value-items.ensures.value) c.value-item.is))
