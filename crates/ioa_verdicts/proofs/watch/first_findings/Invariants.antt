use Rattle.std.proofs.Common.{◌≡◌, map, take}
use Rattle.ioa_verdicts.specs.Verdicts.{answer_in, verdict_at}
use Rattle.ioa_verdicts.proofs.watch.first_findings.Given as goal

-- the verdicts on the invariants gone by
abbrev pub invariant-loop-number : goal.invariant-loop-number
invariant-loop-number l =
    l.findings ≡ map (λ v. verdict_at 0 (answer_in v l.confs)) (take l.number l.placed.invariants.now)
