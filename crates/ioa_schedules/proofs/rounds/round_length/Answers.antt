use Rattle.ioa_terms.specs.Views.{environment_of}
use Rattle.ioa_schedules.specs.Positions.{statements_in}
use Rattle.ioa_schedules.proofs.WholeRounds.{round_above}
use Rattle.ioa_schedules.proofs.rounds.round_length.Goals as goal

pub returns-then-may_be_quiet-clause-above : goal.returns-then-may_be_quiet-clause-above
returns-then-may_be_quiet-clause-above c =
    round_above c.quiet_length.result (statements_in c.args.body.now)
    (environment_of c.args.view.now c.args.values.now) c.quiet_length.ensures
