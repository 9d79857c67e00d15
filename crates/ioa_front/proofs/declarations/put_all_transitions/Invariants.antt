use Rattle.std.proofs.Common.{◌≡◌, ◌++◌, map, drop}
use Rattle.ioa_source.specs.TextView.{transition_of}
use Rattle.ioa_front.specs.Spelling.{joined_spelling, transition_spelling}
use Rattle.ioa_front.proofs.declarations.put_all_transitions.Given as goal

-- what is put so far and the transitions that are left are all of them
abbrev pub invariant-loop-transition : goal.invariant-loop-transition
invariant-loop-transition l =
    l.out ++ joined_spelling transition_spelling (map transition_of (drop l.transition-index l.transitions)) ≡ l.initial.out ++ joined_spelling transition_spelling (map transition_of l.transitions)
