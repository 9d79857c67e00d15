use Rattle.std.proofs.Common.{◌≡◌, drop}
use Rattle.ioa_paper.specs.Papers.{and_text}
use Rattle.ioa_show.specs.Steps.{ending_lines}
use Rattle.ioa_show.proofs.endings.put_endings.Given as goal

-- what is written so far, and then the lines that are left
abbrev pub invariant-loop-node : goal.invariant-loop-node
invariant-loop-node g l =
    and_text l.paper (ending_lines l.node (drop l.node l.endings)) ≡ and_text l.initial.paper (ending_lines 0 l.endings)
