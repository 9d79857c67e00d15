use Rattle.std.proofs.Common.{◌≡◌, drop}
use Rattle.ioa_system.specs.Parts.{rule_named}
use Rattle.ioa_lines.proofs.action.rule_named.Given as goal

-- no rule so far has the name
abbrev pub invariant-loop-rule : goal.invariant-loop-rule
invariant-loop-rule l = rule_named l.name l.rules ≡ rule_named l.name (drop l.rule-index l.rules)
