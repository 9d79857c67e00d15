use Rattle.std.proofs.Common.{◌≡◌, drop}
use Rattle.std.specs.Map.{lookup}
use Rattle.std.specs.Str.{bytes_eq}
use Rattle.ioa_tokens.specs.Tables.{spelled_rows}
use Rattle.ioa_tokens.proofs.table.meaning.Given as goal

-- the rows gone by spell other words
abbrev pub invariant-loop-spelling : goal.invariant-loop-spelling
invariant-loop-spelling g l = lookup (bytes_eq l.word) (spelled_rows l.table) ≡ lookup (bytes_eq l.word) (spelled_rows (drop l.spelling-index l.table))
