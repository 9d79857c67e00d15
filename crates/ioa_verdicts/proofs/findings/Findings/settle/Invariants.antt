use Rattle.std.proofs.Common.{◌≡◌, drop}
use Rattle.ioa_verdicts.specs.Readers.{settled}
use Rattle.ioa_verdicts.proofs.findings.Findings.settle.Given as goal

-- what is settled so far, and then the numbers that are left
abbrev pub invariant-loop-number : goal.invariant-loop-number
invariant-loop-number l =
    settled l.passed l.confs l.placed.invariants.now (drop l.number-index l.numbers) l.self
    ≡ settled l.passed l.confs l.placed.invariants.now l.numbers l.initial.self
