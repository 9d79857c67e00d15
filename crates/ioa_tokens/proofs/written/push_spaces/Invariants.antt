use Rattle.std.proofs.Common.{codes}
use Rattle.std.specs.List.{repeat}
use Rattle.ioa_values.specs.Outcome.{Writes}
use Rattle.ioa_tokens.proofs.written.push_spaces.Given as goal

-- the spaces so far are written
abbrev pub invariant-loop-space : goal.invariant-loop-space
invariant-loop-space l = Writes l.initial.text l.text (repeat l._space (codes " "))
