use Rattle.std.proofs.Common.{◌≡◌, ◌+◌, ◌<◌}
use Rattle.std.specs.Prelude.{◌^◌}
use Rattle.ioa_lines.specs.Lines.{bytes_behind, lines_behind, next_from}
use Rattle.ioa_lines.proofs.lines.ScheduleLines.read_on.Given as goal

-- the next line is among those that are left
abbrev pub invariant-loop-self : goal.invariant-loop-self
invariant-loop-self l = record {
  answer : next_from l.system l.self-inside.count (lines_behind l.self-inside.rest) ≡ next_from l.system l.fn.self.count l.fn.self.lines;
  bound : l.self-inside.count + bytes_behind l.self-inside.rest < 2 ^ 64;
}

-- each turn takes a line
abbrev pub decreases-loop-self : goal.decreases-loop-self
decreases-loop-self l = bytes_behind l.self-inside.rest
