use Rattle.ioa_schedules.proofs.TurnLaws.{turn_names, turn_goes_on_from}
use Rattle.ioa_schedules.proofs.laws.turn_law.Goals as goal

pub returns-clause-names : goal.returns-clause-names
returns-clause-names c = turn_names

pub returns-clause-limit : goal.returns-clause-limit
returns-clause-limit c = turn_goes_on_from
