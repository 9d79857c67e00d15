use Rattle.std.proofs.Common.{◌∙◌, arith}
use Rattle.ioa_source.specs.TextView.{entry_of}
use Rattle.ioa_automata.specs.Rules.{rule_at}
use Rattle.ioa_automata.specs.SortedView.{surroundings_of, transitions_of}
use Rattle.ioa_automata.proofs.Loops.{all_ok_more_same}
use Rattle.ioa_automata.proofs.rules.rules_in_view.Goals as goal

pub loop-entry-preserved : goal.loop-entry-preserved
loop-entry-preserved c =
    rw c.in_ok-push.ensures.items (c.loop-entry.invariant ∙ all_ok_more_same (rule_at (surroundings_of c.args.around.now) (transitions_of c.args.transitions.now)) entry_of c.deref-entry-items.result.now c.loop-entry.entry-index c.entry-item.result c.loop-entry.rules.items c.in_ok-rule.rule (omega arith) c.entry-item.is c.in_ok-rule.ensures)
