use Rattle.std.proofs.Common.{arith, sym}
use Rattle.std.proofs.lemmas.Option.{get_or_from_slice_get}
use Rattle.ioa_monitor.proofs.QueueTexts.{stimuli_more, messages_more}
use Rattle.ioa_monitor.proofs.queues.put_items.Goals as goal

pub loop-position-preserved : goal.loop-position-preserved
loop-position-preserved g c =
    stimuli_more c.args.names.now c.args.paper.now c.loop-position.paper c.put_separator.new.paper
    c.put_node_action.new.paper c.items.result.0.now c.loop-position.position c.index-stimuli-position.result
    c.loop-position.invariant c.put_separator.ensures c.put_node_action.ensures c.loop-position-test.true
    c.index-stimuli-position.is

pub loop-position-2-preserved : goal.loop-position-2-preserved
loop-position-2-preserved g c =
    messages_more c.args.names.now c.args.paper.now c.loop-position-2.paper c.put_separator-in-loop-position-2.new.paper
    c.put_value.new.paper c.items.result.0.now c.items.result.1.now c.loop-position-2.position c.at.result.now
    c.loop-position-2.invariant c.put_separator-in-loop-position-2.ensures c.put_value.ensures (omega arith)
    (sym (get_or_from_slice_get c.items.result.1.now c.loop-position-2.position c.at.result.now c.at.result.now c.at.ensures))
