use Rattle.std.proofs.Common.{◌≡◌, drop}
use Rattle.std.specs.List.{find}
use Rattle.ioa_tokens.specs.Tables.{same_mark}
use Rattle.ioa_term_reader.specs.Levels.{prefix_mark}
use Rattle.ioa_term_reader.proofs.levels.prefix_with_mark.Given as goal

-- the operators gone by have other marks
abbrev pub invariant-loop-operator : goal.invariant-loop-operator
invariant-loop-operator l =
    find (λ op. same_mark (prefix_mark op) l.mark) l.operators
    ≡ find (λ op. same_mark (prefix_mark op) l.mark) (drop l.operator-index l.operators)
