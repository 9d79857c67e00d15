use Rattle.std.proofs.Common.{◌≡◌, length, map, drop}
use Rattle.ioa_terms.specs.PlainTerm.{arms_of, statements_of}
use Rattle.ioa_terms.specs.Resolved.{AreAllResolved, AreArmsResolved}
use Rattle.ioa_terms.specs.View.{arm_of, statement_of}
use Rattle.ioa_terms.specs.Views.{names_in_view, own_names}
use Rattle.ioa_reasons.proofs.stops.+stopping.Given as goal

-- the statements that are left are resolved among the same names
abbrev pub invariant-stop_of_all-loop-statement : goal.invariant-stop_of_all-loop-statement
invariant-stop_of_all-loop-statement l = record {
  kept : length l.values.items ≡ length l.initial.values.items;
  resolved : AreAllResolved (statements_of (map statement_of (drop l.statement-index l.statements)))
      (own_names l.view (length l.initial.values.items)) (names_in_view l.view);
}

-- and so are the arms that are left
abbrev pub invariant-stop_of-loop-arm : goal.invariant-stop_of-loop-arm
invariant-stop_of-loop-arm l = record {
  kept : l.values ≡ l.initial.values;
  resolved : AreArmsResolved (arms_of (map arm_of (drop l.arm-index l.arm-items)))
      (own_names l.view (length l.values.items)) (names_in_view l.view);
}
