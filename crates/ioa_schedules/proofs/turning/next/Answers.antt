use Rattle.std.proofs.Common.{rules}
use Rattle.ioa_terms.specs.Views.{environment_of}
use Rattle.ioa_schedules.specs.Controls.{todo_of, values_of}
use Rattle.ioa_schedules.specs.Turns.{turn_limit}
use Rattle.ioa_schedules.proofs.ByStep.{stepwise_turn_is}
use Rattle.ioa_schedules.proofs.turning.next.Goals as goal

pub returns-in_err-move_on-clause-turn : goal.returns-in_err-move_on-clause-turn
returns-in_err-move_on-clause-turn c =
    rw (← stepwise_turn_is (todo_of c.args.control.now) turn_limit
    (environment_of c.args.view.now (values_of c.args.control.now)))
    (search rules)

pub returns-clause-turn : goal.returns-clause-turn
returns-clause-turn c =
    rw (← stepwise_turn_is (todo_of c.args.control.now) turn_limit
    (environment_of c.args.view.now (values_of c.args.control.now)))
    (search rules)
