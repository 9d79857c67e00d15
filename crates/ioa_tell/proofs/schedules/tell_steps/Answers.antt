use Rattle.std.proofs.Common.{◌≡◌, ◌∷◌, ◌∙◌, ap, arith, length}
use Rattle.ioa_tell.proofs.Replaying.{so_far_all, so_far_none, so_far_on}
use Rattle.ioa_tell.proofs.schedules.tell_steps.Goals as goal

pub loop-entry-init : goal.loop-entry-init
loop-entry-init g c =
    let whole : c.into_iter-entry-iterator.result ≡ c.args.schedule.now = c.into_iter-entry-iterator.ensures.into_iter_gives ∙ c.walk-entry-items.ensures.rest in
    record {
      counted = rw whole (omega arith);
      told = so_far_none g.T.Tells.hears c.args.course.now c.args.schedule.now c.into_iter-entry-iterator.result c.args.out.now whole;
    }

pub loop-entry-preserved : goal.loop-entry-preserved
loop-entry-preserved g c =
    let split : c.loop-entry.entry-iterator ≡ c.in-Some.entry.now ∷ c.next.new.self = c.in-Some.ensures.steps in
    record {
      counted = omega (arith, ap length split, c.loop-entry.invariant.counted);
      told = so_far_on g.T.Tells.hears c.args.course.now c.loop-entry.course c.tell_step.new.course c.args.schedule.now
          c.loop-entry.entry-iterator c.next.new.self c.in-Some.entry.now c.loop-entry.number c.args.out.now
          c.loop-entry.out c.tell_step.new.out c.loop-entry.invariant.told split c.in_ok-tell_step.ensures;
    }

pub returns : goal.returns
returns g c =
    so_far_all g.T.Tells.hears c.args.course.now c.loop-entry.course c.args.schedule.now c.loop-entry.entry-iterator
    c.loop-entry.number c.args.out.now c.loop-entry.out c.loop-entry.invariant.told c.in-None.ensures.steps.0
