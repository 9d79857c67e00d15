use Rattle.std.proofs.Common.{rules, ◌∙◌}
use Rattle.ioa_rawlog.proofs.Laying.{item_copied}
use Rattle.ioa_tell.specs.Nodes.{progress_in}
use Rattle.ioa_tell.proofs.Visiting.{under_way_at}
use Rattle.ioa_tell.proofs.rounds.is_under_way.Goals as goal

pub returns-then-not-is_memory : goal.returns-then-not-is_memory
returns-then-not-is_memory g c = λ _.
    under_way_at progress_in c.args.endings.now c.args.nodes.now c.loop-position.position c.index-nodes-position.result
    c.loop-position-test.true c.index-nodes-position.is (search rules)
    (λ there. c.is_memory.ensures c.if-not-is_memory.true (item_copied c.args.endings.now c.loop-position.position c.get.result c.get.ensures.lookup ∙ there))
