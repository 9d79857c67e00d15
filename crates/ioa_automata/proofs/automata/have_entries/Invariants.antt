use Rattle.std.proofs.Common.{◌≡◌, map, drop}
use Rattle.std.specs.List.{list_all}
use Rattle.ioa_source.specs.TextView.{entry_of, transition_of}
use Rattle.ioa_automata.specs.Rules.{has_entry}
use Rattle.ioa_automata.proofs.automata.have_entries.Given as goal

-- each of those so far has an entry
abbrev pub invariant-loop-transition : goal.invariant-loop-transition
invariant-loop-transition l =
    list_all (has_entry (map entry_of l.entries.items)) (map transition_of l.transitions.items)
    ≡ list_all (has_entry (map entry_of l.entries.items)) (map transition_of (drop l.transition-index l.transition-items))
