use Rattle.std.proofs.Common.{◌≡◌, drop, map}
use Rattle.ioa_terms.specs.PlainTerm.{statements_of, arms_of}
use Rattle.ioa_terms.specs.SameTerms.{same_statements, same_arms}
use Rattle.ioa_terms.specs.View.{statement_of, arm_of}
use Rattle.ioa_terms.proofs.same.+comparing_statements.Given as goal

-- what is left decides as the whole does
abbrev pub invariant-are_same_statements-loop-position : goal.invariant-are_same_statements-loop-position
invariant-are_same_statements-loop-position g l =
    same_statements g.N.PartialEq.eq g.C.PartialEq.eq g.D.PartialEq.eq (statements_of (map statement_of (drop l.position l.statements.items))) (statements_of (map statement_of (drop l.position l.others.items)))
    ≡ same_statements g.N.PartialEq.eq g.C.PartialEq.eq g.D.PartialEq.eq (statements_of (map statement_of l.statements.items)) (statements_of (map statement_of l.others.items))

abbrev pub invariant-are_same_arms-loop-position : goal.invariant-are_same_arms-loop-position
invariant-are_same_arms-loop-position g l =
    same_arms g.N.PartialEq.eq g.C.PartialEq.eq g.D.PartialEq.eq (arms_of (map arm_of (drop l.position l.arms.items))) (arms_of (map arm_of (drop l.position l.others.items)))
    ≡ same_arms g.N.PartialEq.eq g.C.PartialEq.eq g.D.PartialEq.eq (arms_of (map arm_of l.arms.items)) (arms_of (map arm_of l.others.items))
