use Rattle.ioa_explain.specs.FurtherFaults.{AreFaults}
use Rattle.ioa_explain.proofs.further.pages_of.Given as goal

-- what is told so far is of faults
abbrev pub invariant-loop-rank : goal.invariant-loop-rank
invariant-loop-rank l = AreFaults l.name l.text l.pages.items
