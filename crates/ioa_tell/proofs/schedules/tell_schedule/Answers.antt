use Rattle.std.specs.Option.{option_copied}
use Rattle.ioa_tell.proofs.Replaying.{schedule_told}
use Rattle.ioa_tell.proofs.Tellings.{on_from}
use Rattle.ioa_tell.proofs.schedules.tell_schedule.Goals as goal

pub returns : goal.returns
returns g c = record {
  told = on_from c.tell_refused_if.result c.tell_refused_if.ensures
      (λ h. schedule_told g.T.Tells.hears g.T.TellsRefusal.refuses c.args.system.now c.in_ok-course.course
      c.tell_steps.new.course c.args.taken.now (option_copied c.args.refused) c.len.result c.args.out.now
      c.tell_steps.new.out _ c.in_ok-course.ensures c.len.ensures c.in_ok-tell_steps.ensures h);
}
