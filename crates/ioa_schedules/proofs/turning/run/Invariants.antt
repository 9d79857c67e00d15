use Rattle.std.proofs.Common.{◌≡◌, length}
use Rattle.ioa_schedules.specs.Positions.{IsEndOf}
use Rattle.ioa_schedules.specs.States.{bottom_in, todo_in, values_in}
use Rattle.ioa_schedules.specs.Turns.{turn_limit}
use Rattle.ioa_schedules.specs.TurnsByStep.{stepwise_turn}
use Rattle.ioa_terms.specs.Views.{IsNamed, environment_of}
use Rattle.ioa_schedules.specs.Views.{AreResolvedIn}
use Rattle.ioa_schedules.proofs.turning.run.Given as goal

-- the turn is what may still be taken of it from here
abbrev pub invariant-loop-left : goal.invariant-loop-left
invariant-loop-left l = record {
  named : IsNamed l.view (values_in l.state);
  resolved : AreResolvedIn l.view (length (values_in l.state)) (todo_in l.state);
  kept : length (values_in l.state) ≡ length (values_in l.fn.state);
  same : stepwise_turn (todo_in l.fn.state) turn_limit (environment_of l.view (values_in l.fn.state))
      ≡ stepwise_turn (todo_in l.state) l.left (environment_of l.view (values_in l.state));
  end : IsEndOf (bottom_in l.state) (bottom_in l.fn.state);
}

abbrev pub decreases-loop-left : goal.decreases-loop-left
decreases-loop-left l = l.left
