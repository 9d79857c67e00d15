use Rattle.std.proofs.Common.{◌∙◌, ◌<◌, length, rules}
use Rattle.ioa_solo.specs.Visits.{progress_in}
use Rattle.ioa_solo.proofs.Rounds.{ended_more, same_set}
use Rattle.ioa_solo.proofs.going.end_all.Goals as goal

pub loop-position-preserved : goal.loop-position-preserved
loop-position-preserved g c =
    let within : c.loop-position.position < length c.loop-position.nodes = search rules in
    record {
      ended = ended_more progress_in c.loop-position.nodes c.loop-position.position c.index-nodes-position.result c.end_for_memory.new.node _ within c.end_for_memory.ensures.ended c.loop-position.invariant.ended;
      numbers = same_set (λ n. n.number) c.loop-position.nodes c.loop-position.position c.index-nodes-position.result c.end_for_memory.new.node within c.end_for_memory.ensures.number ∙ c.loop-position.invariant.numbers;
    }
