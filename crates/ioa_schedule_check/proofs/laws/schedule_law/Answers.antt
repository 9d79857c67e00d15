use Rattle.ioa_schedule_check.proofs.Meant.{accepted, found, refused}
use Rattle.ioa_schedule_check.proofs.laws.schedule_law.Goals as goal

pub returns-clause-accepted : goal.returns-clause-accepted
returns-clause-accepted c = accepted

pub returns-clause-execution : goal.returns-clause-execution
returns-clause-execution c = found

pub returns-clause-refused : goal.returns-clause-refused
returns-clause-refused c = refused
