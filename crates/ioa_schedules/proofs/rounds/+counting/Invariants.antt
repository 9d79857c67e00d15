use Rattle.std.proofs.Common.{◌≡◌, length, map, drop}
use Rattle.ioa_terms.specs.Resolved.{AreAllResolved, AreArmsResolved}
use Rattle.ioa_terms.specs.PlainTerm.{arms_of, statements_of}
use Rattle.ioa_terms.specs.View.{arm_of, statement_of}
use Rattle.ioa_terms.specs.Views.{environment_of, names_in_view, own_names}
use Rattle.ioa_schedules.specs.Rounds.{quiet_all, quiet_choice}
use Rattle.ioa_schedules.proofs.rounds.+counting.Given as goal

-- what is left, behind the statements counted so far, counts as the whole
abbrev pub invariant-quiet_length-loop-statement : goal.invariant-quiet_length-loop-statement
invariant-quiet_length-loop-statement l = record {
  same : quiet_all (statements_of (map statement_of (drop l.statement-index l.statements))) l.count (environment_of l.view l.values)
      ≡ quiet_all (statements_of (map statement_of l.statements)) l.taken (environment_of l.view l.values);
  resolved : AreAllResolved (statements_of (map statement_of (drop l.statement-index l.statements))) (own_names l.view (length l.values)) (names_in_view l.view);
}

-- the arms that are left count as all of them do
abbrev pub invariant-quiet_count-loop-arm : goal.invariant-quiet_count-loop-arm
invariant-quiet_count-loop-arm l = record {
  resolved : AreArmsResolved (arms_of (map arm_of (drop l.arm-index l.arm-items))) (own_names l.view (length l.values)) (names_in_view l.view);
  same : (let e = environment_of l.view l.values in let rest = quiet_all (statements_of (map statement_of l.others.items)) l.count e in
      quiet_choice (arms_of (map arm_of (drop l.arm-index l.arm-items))) rest l.count e ≡ quiet_choice (arms_of (map arm_of l.arm-items)) rest l.count e);
}
