use Rattle.std.proofs.Common.{◌∙◌, ap, sym}
use Rattle.ioa_terms.specs.View.{firing_of}
use Rattle.ioa_system.specs.Parts.{PlainRule}
use Rattle.ioa_sorts.specs.Firings.{is_of_kind}
use Rattle.ioa_sorts.proofs.Fired.{never_missing, none_named, number_by_kind, rule_by_kind}
use Rattle.ioa_sorts.proofs.firings.rule_fired.Goals as goal

pub returns-in_err-number-clause-rule : goal.returns-in_err-number-clause-rule
returns-in_err-number-clause-rule c =
    rw c.from_residual.ensures (none_named (firing_of c.args.firing.now) c.args.rules.now c.in_err-number.ensures.differ c.in_err-number.ensures.number)

-- each number is that of a rule
pub returns-in_err-rule-clause-rule : goal.returns-in_err-rule-clause-rule
returns-in_err-rule-clause-rule c =
    absurd (never_missing (firing_of c.args.firing.now) c.args.rules.now c.in_ok-number.ensures.differ c.in_ok-number.number c.in_ok-number.ensures.number c.in_err-rule.ensures.rule)

pub returns-then-is_of_kind-clause-rule : goal.returns-then-is_of_kind-clause-rule
returns-then-is_of_kind-clause-rule c =
    rw c.if-is_of_kind.true at (rule_by_kind (firing_of c.args.firing.now) c.args.rules.now c.in_ok-number.ensures.differ c.in_ok-number.number c.in_ok-rule.rule.now c.in_ok-number.ensures.number c.in_ok-rule.ensures.rule c.is_of_kind.result (c.is_of_kind.ensures ∙ ap (λ (r : PlainRule). is_of_kind c.args.firing.now.kind r.entry.kind) c.rule.view_is))

pub returns-then-is_of_kind-clause-number : goal.returns-then-is_of_kind-clause-number
returns-then-is_of_kind-clause-number c =
    number_by_kind (firing_of c.args.firing.now) c.args.rules.now c.in_ok-number.ensures.differ c.in_ok-number.number c.in_ok-rule.rule.now c.in_ok-number.ensures.number c.in_ok-rule.ensures.rule
    (sym c.if-is_of_kind.true ∙ c.is_of_kind.ensures ∙ ap (λ (r : PlainRule). is_of_kind c.args.firing.now.kind r.entry.kind) c.rule.view_is)

pub returns-else-is_of_kind-clause-rule : goal.returns-else-is_of_kind-clause-rule
returns-else-is_of_kind-clause-rule c =
    rw c.if-is_of_kind.false at (rule_by_kind (firing_of c.args.firing.now) c.args.rules.now c.in_ok-number.ensures.differ c.in_ok-number.number c.in_ok-rule.rule.now c.in_ok-number.ensures.number c.in_ok-rule.ensures.rule c.is_of_kind.result (c.is_of_kind.ensures ∙ ap (λ (r : PlainRule). is_of_kind c.args.firing.now.kind r.entry.kind) c.rule.view_is))
