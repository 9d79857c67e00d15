use Rattle.std.proofs.Common.{◌≡◌, map, drop}
use Rattle.ioa_terms.specs.PlainTerm.{arms_of}
use Rattle.ioa_terms.specs.View.{arm_of}
use Rattle.ioa_schedules.specs.Positions.{statements_in}
use Rattle.ioa_schedules.specs.Rounds.{begins_quietly, choice_begins_quietly}
use Rattle.ioa_schedules.proofs.rounds.choice_begins_quietly.Given as goal

-- the arms that are left decide as all of them do
abbrev pub invariant-loop-arm : goal.invariant-loop-arm
invariant-loop-arm l =
    choice_begins_quietly (arms_of (map arm_of (drop l.arm-index l.arms))) (begins_quietly (statements_in l.others))
    ≡ choice_begins_quietly (arms_of (map arm_of l.arms)) (begins_quietly (statements_in l.others))
