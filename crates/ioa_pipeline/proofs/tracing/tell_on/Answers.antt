use Rattle.ioa_pipeline.proofs.Tellings.{telling_kept}
use Rattle.ioa_pipeline.proofs.tracing.tell_on.Goals as goal

pub returns-clause-kept : goal.returns-clause-kept
returns-clause-kept g c =
    telling_kept c.args.system.now c.args.options.now.attempts c.args.run_record.now.schedule c.args.endings.now
    c.args.teller.now c.tell.new.out c.tell.result c.tell.ensures.told
