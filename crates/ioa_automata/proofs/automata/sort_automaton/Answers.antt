use Rattle.std.proofs.Common.{rules}
use Rattle.std.specs.Arc.{arc_value}
use Rattle.ioa_source.specs.TextView.{automaton_of, schedule_of}
use Rattle.ioa_automata.specs.SortedView.{heading_of}
use Rattle.ioa_automata.proofs.Ready.{automaton_ready}
use Rattle.ioa_automata.proofs.automata.sort_automaton.Goals as goal

pub new-found-requires : goal.new-found-requires
new-found-requires c =
    rw (c.in_ok-words.ensures, c.names-2.ensures, c.deref-4.ensures, c.in_ok-own.ensures, c.as_slice.ensures, c.deref-3.ensures, c.deref-2.ensures, c.into_rules.ensures, c.into_inner-heading.ensures, c.into_inner-body.ensures)
    (automaton_ready c.types-declared.result.now c.in_ok-heading.ensures.declared (automaton_of c.args.automaton.now) (heading_of c.in_ok-heading.heading.value) c.in_ok-name.name (arc_value c.in_ok-constants.constants) c.in_ok-body.body.value.rules (schedule_of c.in_ok-body.body.value.schedule) (search rules) (search rules))

-- the names are those of the variables and the parameters
pub new-requires : goal.new-requires
new-requires c =
    rw (c.new-found.ensures, c.into_names.ensures, c.into_inner-heading.ensures)
    (automaton_ready c.types-declared.result.now c.in_ok-heading.ensures.declared (automaton_of c.args.automaton.now) (heading_of c.in_ok-heading.heading.value) c.in_ok-name.name (arc_value c.in_ok-constants.constants) c.in_ok-body.body.value.rules (schedule_of c.in_ok-body.body.value.schedule) (search rules) (search rules)).named
