use Rattle.std.proofs.Common.{◌≡◌, Some, rules}
use Rattle.ioa_actions.specs.ActionParts.{action_name}
use Rattle.ioa_system.specs.Parts.{rule_named}
use Rattle.ioa_reasons.specs.PlainReasons.{place_of}
use Rattle.ioa_reasons.specs.FoundFaults.{fault_found}
use Rattle.ioa_reasons.proofs.FaultParts.{fault_found_in}
use Rattle.ioa_reasons.proofs.faulted.faulted_at.Goals as goal

pub returns-in-Some : goal.returns-in-Some
returns-in-Some c =
    let named : rule_named (action_name c.args.action.now) c.args.conf.now.program.automaton.rules ≡ Some c.in-Some.rule.now = search rules in
    fault_found_in (λ f. place_of f.place) (λ f. fault_found f.fault) c.args.conf.now c.args.action.now c.in-Some.rule.now named c.faulted_by.result c.faulted_by.ensures
