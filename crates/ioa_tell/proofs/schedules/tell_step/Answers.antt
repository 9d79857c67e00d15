use Rattle.ioa_tell.proofs.Replaying.{step_told}
use Rattle.ioa_tell.proofs.Tellings.{on_from}
use Rattle.ioa_tell.proofs.schedules.tell_step.Goals as goal

pub returns : goal.returns
returns g c =
    on_from c.tell_taken.result c.tell_taken.ensures
    (λ h. step_told g.T.Tells.hears c.args.course.now c.step.new.course c.args.number c.args.entry.now
    c.in_ok-before.before _ _ c.in_ok-step.ensures c.in_ok-before.ensures h)
