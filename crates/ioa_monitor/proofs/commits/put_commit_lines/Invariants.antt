use Rattle.std.proofs.Common.{◌≡◌, drop}
use Rattle.ioa_paper.specs.Papers.{and_text}
use Rattle.ioa_monitor.specs.Reports.{commit_lines}
use Rattle.ioa_monitor.proofs.commits.put_commit_lines.Given as goal

-- what is written so far, and then the lines that are left
abbrev pub invariant-loop-worker : goal.invariant-loop-worker
invariant-loop-worker g l =
    and_text l.paper (commit_lines l.worker (drop l.worker l.commits)) ≡ and_text l.initial.paper (commit_lines 0 l.commits)
