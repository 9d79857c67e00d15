use Rattle.std.proofs.Common.{◌≡◌, drop, nat_eq}
use Rattle.std.specs.Map.{lookup_entry}
use Rattle.std.specs.List.{starts_with}
use Rattle.ioa_tokens.specs.Tables.{spelled_rows}
use Rattle.ioa_tokens.proofs.table.row_at_head.Given as goal

-- the text begins with no spelling of the rows gone by
abbrev pub invariant-loop-spelling : goal.invariant-loop-spelling
invariant-loop-spelling g l = lookup_entry (starts_with nat_eq l.text) (spelled_rows l.table) ≡ lookup_entry (starts_with nat_eq l.text) (spelled_rows (drop l.spelling-index l.table))
