use Rattle.std.proofs.Common.{length, map, drop}
use Rattle.ioa_terms.specs.PlainTerm.{arms_of}
use Rattle.ioa_terms.specs.Resolved.{AreArmsResolved}
use Rattle.ioa_terms.specs.View.{arm_of}
use Rattle.ioa_terms.specs.Views.{names_in_view, own_names}
use Rattle.ioa_reasons.proofs.stuck.stop_in_arms.Given as goal

-- the arms that are left are resolved
abbrev pub invariant-loop-arm : goal.invariant-loop-arm
invariant-loop-arm l = AreArmsResolved (arms_of (map arm_of (drop l.arm-index l.arms)))
    (own_names l.view (length l.own)) (names_in_view l.view)
