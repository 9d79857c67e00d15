use Rattle.std.proofs.Common.{drop, length, arith, ◌≤◌}
use Rattle.std.proofs.lemmas.List.{drop_all}
use Rattle.ioa_tell.proofs.Tellings.{leads_first, leads_last}
use Rattle.ioa_tell.proofs.telling.tell_endings.Goals as goal

pub loop-node-init : goal.loop-node-init
loop-node-init g c = leads_first g.T.Tells.hears c.args.endings.now c.args.out.now

pub returns : goal.returns
returns g c =
    let past : length c.args.endings.now ≤ c.loop-node.node = omega arith in
    leads_last g.T.Tells.hears c.loop-node.node (drop c.loop-node.node c.args.endings.now) c.args.endings.now c.args.out.now c.loop-node.out (drop_all c.loop-node.node c.args.endings.now past) c.loop-node.invariant
