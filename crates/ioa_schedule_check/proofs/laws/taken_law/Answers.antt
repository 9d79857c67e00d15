use Rattle.ioa_schedule_check.proofs.Taken.{taken_before, taken_replayed, taken_whole}
use Rattle.ioa_schedule_check.proofs.laws.taken_law.Goals as goal

pub returns-clause-replayed : goal.returns-clause-replayed
returns-clause-replayed c = taken_replayed

pub returns-clause-whole : goal.returns-clause-whole
returns-clause-whole c = taken_whole

pub returns-clause-before : goal.returns-clause-before
returns-clause-before c = taken_before
