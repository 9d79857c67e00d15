use Rattle.std.proofs.Common.{◌≡◌, All, drop}
use Rattle.ioa_system.specs.InView.{declared_names}
use Rattle.ioa_system.specs.Parts.{rule_named}
use Rattle.ioa_system.specs.ResolvedPrograms.{IsResolvedRule}
use Rattle.ioa_system.proofs.automaton.CheckedAutomaton.rule_named.Given as goal

-- no rule so far has the name
abbrev pub invariant-loop-rule : goal.invariant-loop-rule
invariant-loop-rule l = record {
  resolved : All (IsResolvedRule (declared_names l.self)) l.rule-items;
  all : rule_named l.name l.self.rules ≡ rule_named l.name (drop l.rule-index l.rule-items);
}
