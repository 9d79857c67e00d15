use Rattle.std.proofs.Common.{◌≡◌, All, drop}
use Rattle.std.specs.Prelude.{find}
use Rattle.ioa_system.specs.InView.{declared_names, given_bindings}
use Rattle.ioa_system.specs.ResolvedPrograms.{IsResolvedRule}
use Rattle.ioa_transitions.specs.NodeAnswers as spec
use Rattle.ioa_transitions.proofs.rule.rule_among.Given as goal

-- no rule gone by is the action's
abbrev pub invariant-loop-rule : goal.invariant-loop-rule
invariant-loop-rule l = record {
  resolved : All (IsResolvedRule (declared_names l.program.automaton)) l.rule-items;
  same : find (λ r. spec.entry_agrees (given_bindings l.program.automaton l.program.arguments) l.action r.entry)
      (drop l.rule-index l.rule-items)
      ≡ spec.rule_for l.program l.action;
}
