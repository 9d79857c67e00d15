use Rattle.ioa_values.proofs.ItemKinds.{key_kind_more}
use Rattle.ioa_values.proofs.item_kind.ItemKind.of_keys.Goals as goal

pub loop-key-preserved : goal.loop-key-preserved
loop-key-preserved c =
    rw c.join-kind.ensures
    (key_kind_more c.loop-key.kind c.of.result c.args.entries.now.items c.loop-key.key-index c.loop-key-item.result c.loop-key.invariant c.of.ensures
    (rw (← c.deref-key-items.ensures.value) c.loop-key-test.true) (rw (← c.deref-key-items.ensures.value) c.loop-key-item.is))
