use Rattle.std.proofs.Common.{◌≡◌, min, length, map, refl, arith}
use Rattle.ioa_operators.proofs.SameLists.{same_ended}
use Rattle.ioa_terms.specs.PlainTerm.{statements_of, arms_of}
use Rattle.ioa_terms.specs.SameTerms.{same_statements, same_arms}
use Rattle.ioa_terms.specs.View.{statement_of, arm_of}
use Rattle.ioa_terms.proofs.same.+comparing_statements.Goals as goal

-- the shorter list has ended
pub are_same_statements-returns : goal.are_same_statements-returns
are_same_statements-returns g t c =
    let at_end : c.loop-position.position ≡ min (length c.args.statements.now.items) (length c.args.others.now.items) = omega arith in
    let ended = same_ended (λ ss ts. same_statements g.N.PartialEq.eq g.C.PartialEq.eq g.D.PartialEq.eq (statements_of (map statement_of ss)) (statements_of (map statement_of ts))) refl (λ t ts. refl) (λ s ss. refl) c.args.statements.now.items c.args.others.now.items c.loop-position.position at_end in
    cc (c.args.statements.now.ok.0, c.args.others.now.ok.0)

pub are_same_arms-returns : goal.are_same_arms-returns
are_same_arms-returns g t c =
    let at_end : c.loop-position.position ≡ min (length c.args.arms.now.items) (length c.args.others.now.items) = omega arith in
    let ended = same_ended (λ xs ys. same_arms g.N.PartialEq.eq g.C.PartialEq.eq g.D.PartialEq.eq (arms_of (map arm_of xs)) (arms_of (map arm_of ys))) refl (λ y ys. refl) (λ x xs. refl) c.args.arms.now.items c.args.others.now.items c.loop-position.position at_end in
    cc (c.args.arms.now.ok.0, c.args.others.now.ok.0)
