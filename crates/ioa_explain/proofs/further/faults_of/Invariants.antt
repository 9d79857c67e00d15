use Rattle.std.specs.List.{AllByRecursion}
use Rattle.ioa_explain.specs.FurtherFaults.{IsFault}
use Rattle.ioa_explain.proofs.further.faults_of.Given as goal

-- what was found are faults of the text
abbrev pub invariant-loop-turn : goal.invariant-loop-turn
invariant-loop-turn l = AllByRecursion (λ f. IsFault l.text f.refusal f.span) l.faults.items
