use Rattle.std.proofs.Common.{◌≡◌, length, map, drop}
use Rattle.ioa_terms.specs.PlainTerm.{arms_of}
use Rattle.ioa_terms.specs.Resolved.{AreArmsResolved}
use Rattle.ioa_terms.specs.View.{arm_of}
use Rattle.ioa_schedules.specs.Positions.{statements_in}
use Rattle.ioa_schedules.specs.TurnsByStep.{stepwise_choice}
use Rattle.ioa_terms.specs.Views.{environment_of, names_in_view, own_names}
use Rattle.ioa_schedules.proofs.step.choice.Given as goal

-- the arms that are left decide as all of them do
abbrev pub invariant-loop-arm : goal.invariant-loop-arm
invariant-loop-arm l = record {
  resolved : AreArmsResolved (arms_of (map arm_of (drop l.arm-index l.arms))) (own_names l.view (length l.values)) (names_in_view l.view);
  same : stepwise_choice (arms_of (map arm_of (drop l.arm-index l.arms))) (statements_in l.others) (environment_of l.view l.values)
      ≡ stepwise_choice (arms_of (map arm_of l.arms)) (statements_in l.others) (environment_of l.view l.values);
}
