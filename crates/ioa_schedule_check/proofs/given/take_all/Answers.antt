use Rattle.std.proofs.Common.{rules}
use Rattle.ioa_schedule_check.proofs.Taken.{leads_further, takes_further}
use Rattle.ioa_schedule_check.proofs.given.take_all.Goals as goal

pub loop-entry-preserved : goal.loop-entry-preserved
loop-entry-preserved c =
    let next = rw c.in-Some.is at c.in_ok-entry.ensures.next in
    let step = rw c.in-Some.is at c.in_ok-entry.ensures.moves in
    record {
      answer = search rules;
      taken = takes_further _ _ _ _ _ _ c.in_ok-put.ensures next.1 c.loop-entry.invariant.taken;
      moved = leads_further _ _ _ _ _ _ _ c.loop-entry.invariant.moved step c.in_ok-put.ensures;
      refused = search rules;
    }
