use Rattle.std.proofs.Common.{rules}
use Rattle.ioa_pipeline.specs.WholeRun.{IsFaultOfWorkers}
use Rattle.ioa_pipeline.proofs.whole_run.run_of.Goals as goal

pub returns-clause-left : goal.returns-clause-left
returns-clause-left g c = record {
  described = c.in_ok-system.ensures.described;
  run = c.in_ok-record.ensures.run c.in_ok-system.ensures.described.declared;
  counted = c.in_ok-record.ensures.counted;
  alone = c.in_ok-record.ensures.alone;
  solo = c.in_ok-record.ensures.solo;
}

pub returns-in_err-system-clause-alone : goal.returns-in_err-system-clause-alone
returns-in_err-system-clause-alone g c =
    let workers = c.args.options.now.workers in
    let calm : IsFaultOfWorkers workers c.in_err-system.field-0.0 = c.in_err-system.ensures.calm workers in
    search rules
