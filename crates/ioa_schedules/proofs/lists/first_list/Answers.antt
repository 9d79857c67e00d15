use Rattle.std.proofs.Common.{◌∙◌, length}
use Rattle.ioa_schedules.proofs.Ends.{same_bottom}
use Rattle.ioa_schedules.proofs.Joins.{next_list, fewer_lists}
use Rattle.ioa_schedules.proofs.lists.first_list.Goals as goal

pub loop-top-preserved : goal.loop-top-preserved
loop-top-preserved c = record {
  same = next_list c.loop-top.top.now c.loop-top.below.items c.pop.new.self.items c.in-Some.list c.loop-top-test.true c.in-Some.ensures.items ∙ c.loop-top.invariant.same;
  fewer = fewer_lists (length c.args.below.now.items) c.loop-top.below.items c.pop.new.self.items c.in-Some.list c.in-Some.ensures.items c.loop-top.invariant.fewer;
  bottom = same_bottom c.loop-top.top.now c.loop-top.below.items c.pop.new.self.items c.in-Some.list c.loop-top-test.true c.in-Some.ensures.items ∙ c.loop-top.invariant.bottom;
}
