use Rattle.ioa_tell.specs.Nodes.{progress_in}
use Rattle.ioa_tell.proofs.Visiting.{cuts_at, cuts_first}
use Rattle.ioa_tell.proofs.telling.tell_cut_off.Goals as goal

pub loop-node-init : goal.loop-node-init
loop-node-init g c = cuts_first g.T.Tells.hears c.args.book.now progress_in c.args.nodes.now c.args.out.now

pub loop-node-preserved : goal.loop-node-preserved
loop-node-preserved g c =
    cuts_at g.T.Tells.hears c.args.book.now progress_in c.args.nodes.now c.loop-node.node-index c.node-item.result c.args.out.now c.loop-node.out c.tell_node_cut_off.new.out
    c.loop-node-test.true c.node-item.is c.loop-node.invariant c.in_ok-tell_node_cut_off.ensures
