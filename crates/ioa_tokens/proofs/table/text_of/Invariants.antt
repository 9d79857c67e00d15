use Rattle.std.proofs.Common.{◌≡◌, drop}
use Rattle.ioa_tokens.specs.Tables.{spelled_rows, first_text}
use Rattle.ioa_tokens.proofs.table.text_of.Given as goal

-- the rows gone by have other meanings
abbrev pub invariant-loop-text : goal.invariant-loop-text
invariant-loop-text g l =
    first_text (λ m. g.T.PartialEq.eq m l.wanted) (spelled_rows l.table)
    ≡ first_text (λ m. g.T.PartialEq.eq m l.wanted) (spelled_rows (drop l.text-index l.table))
