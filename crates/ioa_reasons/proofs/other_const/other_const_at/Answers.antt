use Rattle.std.proofs.Common.{◌≡◌, Some, rules}
use Rattle.ioa_actions.specs.ActionParts.{action_name}
use Rattle.ioa_system.specs.Parts.{rule_named}
use Rattle.ioa_reasons.proofs.ConstsFound.{const_found_in}
use Rattle.ioa_reasons.proofs.other_const.other_const_at.Goals as goal

pub returns-in-Some : goal.returns-in-Some
returns-in-Some c =
    let named : rule_named (action_name c.args.action.now) c.args.conf.now.program.automaton.rules ≡ Some c.in-Some.rule.now = search rules in
    const_found_in c.args.conf.now c.args.action.now c.in-Some.rule.now named c.other_const_for.result (search rules)
