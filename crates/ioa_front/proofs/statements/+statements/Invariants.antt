use Rattle.std.proofs.Common.{◌≡◌, ◌++◌, map, drop}
use Rattle.ioa_terms.specs.PlainTerm.{statements_of, arms_of}
use Rattle.ioa_terms.specs.View.{statement_of, arm_of}
use Rattle.ioa_front.specs.Spelling.{statements_spelling, arms_spelling}
use Rattle.ioa_front.specs.Listing.{statements_left, arms_left}
use Rattle.ioa_front.proofs.statements.+statements.Given as goal

-- what is put so far and the arms that are left are all of them
abbrev pub invariant-put_arms-loop-arm : goal.invariant-put_arms-loop-arm
invariant-put_arms-loop-arm l =
    l.out ++ arms_left l.first (arms_of (map arm_of (drop l.arm-index l.arm-items))) ≡ l.fn.out ++ arms_spelling (arms_of (map arm_of l.arms.items))

-- what is put so far and the statements that are left are all of them
abbrev pub invariant-put_statements-loop-statement : goal.invariant-put_statements-loop-statement
invariant-put_statements-loop-statement l =
    l.out ++ statements_left l.first (statements_of (map statement_of (drop l.statement-index l.statement-items)))
    ≡ l.fn.out ++ statements_spelling (statements_of (map statement_of l.statements.items))
