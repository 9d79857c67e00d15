use Rattle.std.proofs.Common.{◌≡◌, ◌+◌, ◌^◌, ◌<◌, length, ap, arith}
use Rattle.std.specs.Prelude.{List}
use Rattle.ioa_values.specs.Data.{Data}
use Rattle.ioa_values.specs.EntryTrees.{entries_in}
use Rattle.ioa_values.proofs.FiniteSets.{map_with}
use Rattle.ioa_values.proofs.finite_map.FiniteMap.update.Goals as goal

pub invariant_of-result : goal.invariant_of-result
invariant_of-result c =
    let as_many : length (entries_in c.self.inside.root) ≡ length c.args.self.now = ap (λ (es : List (Data × Data)). length es) c.self.view_is in
    let room : length (entries_in c.self.inside.root) + 1 < 2 ^ 63 = omega (arith, as_many) in
    rw (c.in_ok-with_entry.ensures.entries, c.in_ok-entry.ensures.entry, c.join-key_kind.ensures, c.join-value_kind.ensures)
    (map_with c.args.key.now c.args.value.now (entries_in c.self.inside.root) c.self.inside.key_kind c.of.result c.self.inside.value_kind c.of-2.result c.self.invariant
    c.in_ok-entry.ensures.canonical c.of.ensures c.of-2.ensures room)
