use Rattle.std.proofs.Common.{◌≡◌, drop}
use Rattle.ioa_sections.specs.Nodes.{automaton_named}
use Rattle.ioa_sections.proofs.nodes.automaton_named.Given as goal

-- no automaton so far has the name
abbrev pub invariant-loop-automaton : goal.invariant-loop-automaton
invariant-loop-automaton l =
    automaton_named l.name l.automata.items ≡ automaton_named l.name (drop l.automaton-index l.automaton-items)
