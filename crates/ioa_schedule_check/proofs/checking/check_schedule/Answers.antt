use Rattle.ioa_schedule_check.proofs.Meant.{accepted_if}
use Rattle.ioa_schedule_check.proofs.checking.check_schedule.Goals as goal

pub returns-clause-execution : goal.returns-clause-execution
returns-clause-execution c = accepted_if c.args.system.now c.args.text.now c.go_through.result c.go_through.ensures
