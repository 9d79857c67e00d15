use Rattle.ioa_system.specs.InView.{given_bindings}
use Rattle.ioa_transitions.proofs.Arguments.{own_named}
use Rattle.ioa_transitions.proofs.rule.values_by.Goals as goal

pub take_transition-requires-clause-own : goal.take_transition-requires-clause-own
take_transition-requires-clause-own c =
    let resolved = rw c.in-Some.is at c.in_ok-rule_for.ensures.resolved in
    let agrees = rw c.in-Some.is at c.in_ok-rule_for.ensures.agrees in
    let program = c.args.program.now in
    rw (resolved.own, c.requires.own) (own_named (given_bindings program.automaton program.arguments) c.args.action.now c.in-Some.rule.now.entry agrees)
