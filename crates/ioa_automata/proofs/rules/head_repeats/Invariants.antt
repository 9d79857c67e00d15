use Rattle.std.proofs.Common.{◌≡◌, map, drop}
use lib.Pointwise.{pointwise}
use Rattle.ioa_terms.specs.View.{term_of}
use Rattle.ioa_source.specs.TextView.{parameter_of}
use Rattle.ioa_automata.specs.Rules.{repeats}
use Rattle.ioa_automata.proofs.rules.head_repeats.Given as goal

-- what is left to compare decides
abbrev pub invariant-loop-position : goal.invariant-loop-position
invariant-loop-position l =
    pointwise repeats (map parameter_of l.parameters.items) (map term_of l.arguments.items)
    ≡ pointwise repeats (map parameter_of (drop l.position l.parameters.items)) (map term_of (drop l.position l.arguments.items))
