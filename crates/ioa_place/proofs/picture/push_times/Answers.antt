use Rattle.ioa_place.proofs.Repeats.{repeat_more}
use Rattle.ioa_place.proofs.picture.push_times.Goals as goal

-- once more
pub loop-turn-preserved : goal.loop-turn-preserved
loop-turn-preserved c =
    repeat_more _ _ _ _ c.loop-turn._turn c.loop-turn.invariant c.in_ok-extend_from_slice.ensures.items
