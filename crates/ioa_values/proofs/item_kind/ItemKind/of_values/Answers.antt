use Rattle.ioa_values.proofs.ItemKinds.{value_kind_more}
use Rattle.ioa_values.proofs.item_kind.ItemKind.of_values.Goals as goal

pub loop-value-preserved : goal.loop-value-preserved
loop-value-preserved c =
    rw c.join-kind.ensures
    (value_kind_more c.loop-value.kind c.of.result c.args.entries.now.items c.loop-value.value-index c.loop-value-item.result c.loop-value.invariant c.of.ensures
    (rw (← c.deref-value-items.ensures.value) c.loop-value-test.true) (rw (← c.deref-value-items.ensures.value) c.loop-value-item.is))
