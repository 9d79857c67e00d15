use Rattle.std.proofs.Common.{map}
use Rattle.ioa_source.specs.TextView.{entry_of}
use Rattle.ioa_automata.proofs.RuleNames.{rules_indexed}
use Rattle.ioa_automata.proofs.automata.sort_actions.Goals as goal

pub new-requires : goal.new-requires
new-requires c =
    rules_indexed _ _ (map entry_of c.args.automaton.now.signature.items) c.in_ok-names.names c.in_ok-rules.rules.items c.in_ok-names.ensures c.in_ok-rules.ensures.rules
