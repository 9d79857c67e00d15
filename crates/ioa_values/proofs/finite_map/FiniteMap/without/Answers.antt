use Rattle.ioa_values.specs.EntryTrees.{entries_in}
use Rattle.ioa_values.proofs.FiniteSets.{map_without}
use Rattle.ioa_values.proofs.finite_map.FiniteMap.without.Goals as goal

pub invariant_of-result : goal.invariant_of-result
invariant_of-result c =
    rw c.in_ok-without_key.ensures.entries
    (map_without c.args.key.now (entries_in c.self.inside.root) c.self.inside.key_kind c.self.inside.value_kind c.self.invariant)
