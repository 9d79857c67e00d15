use Rattle.ioa_pipeline.proofs.Replays.{telling_kept}
use Rattle.ioa_pipeline.proofs.replaying.tell_on.Goals as goal

pub returns-clause-kept : goal.returns-clause-kept
returns-clause-kept g c =
    telling_kept c.args.system.now c.args.taken.now _ c.args.teller.now c.tell_schedule.new.out c.tell_schedule.result
    c.tell_schedule.ensures.told
