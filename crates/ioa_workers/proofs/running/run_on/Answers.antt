use Rattle.std.proofs.Common.{rules}
use Rattle.ioa_record.specs.Recorded.{IsRecordOf}
use Rattle.ioa_sharing.specs.Named.{shared_of_value}
use Rattle.ioa_record.proofs.Runs.{is_run_of}
use Rattle.ioa_workers.proofs.running.run_on.Goals as goal

pub returns-clause-run : goal.returns-clause-run
returns-clause-run g c =
    let left : IsRecordOf (shared_of_value c.args.system.now) c.args.options.now.steps c.in_ok-record.record c.in_ok-endings.endings.items = search rules in
    λ w. is_run_of _ _ _ _ w left
