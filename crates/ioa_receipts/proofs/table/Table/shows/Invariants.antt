use Rattle.std.proofs.Common.{◌≡◌, ◌↔◌, drop, map, Some}
use Rattle.std.specs.Option.{option_copied}
use Rattle.ioa_receipts.proofs.table.Table.shows.Given as goal

-- what is left agrees exactly if the whole does
abbrev pub invariant-loop-place : goal.invariant-loop-place
invariant-loop-place l =
    (map option_copied (drop l.place-index l.places) ≡ map Some l.entries)
    ↔ (map option_copied l.places ≡ map Some l.log)
