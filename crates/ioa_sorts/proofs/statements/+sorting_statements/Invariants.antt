use Rattle.std.proofs.Common.{◌≡◌, ◌++◌, Ok, map, drop}
use Rattle.ioa_values.specs.Outcome.{and_then}
use Rattle.ioa_terms.specs.PlainTerm.{arms_of, statements_of}
use Rattle.ioa_terms.specs.View.{statement_of, arm_of}
use Rattle.ioa_sorts.specs.SiteView.{site_of}
use Rattle.ioa_sorts.specs.Statements.{all_ok, statement_sortings, arm_sortings}
use Rattle.ioa_sorts.proofs.statements.+sorting_statements.Given as goal

-- all are those so far and then those that are left
abbrev pub invariant-sort_statements-loop-statement : goal.invariant-sort_statements-loop-statement
invariant-sort_statements-loop-statement l =
    all_ok (statement_sortings (site_of l.site) (statements_of (map statement_of l.statements.items)))
    ≡ and_then (all_ok (statement_sortings (site_of l.site) (statements_of (map statement_of (drop l.statement-index l.statement-items))))) (λ ss. Ok (map statement_of l.sorted.items ++ ss))

abbrev pub invariant-sort_arms-loop-arm : goal.invariant-sort_arms-loop-arm
invariant-sort_arms-loop-arm l =
    all_ok (arm_sortings (site_of l.site) (arms_of (map arm_of l.arms.items)))
    ≡ and_then (all_ok (arm_sortings (site_of l.site) (arms_of (map arm_of (drop l.arm-index l.arm-items))))) (λ ts. Ok (map arm_of l.sorted.items ++ ts))
