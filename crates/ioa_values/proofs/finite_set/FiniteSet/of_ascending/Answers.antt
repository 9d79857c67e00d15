use Rattle.std.proofs.Common.{◌≡◌, arith, rules}
use Rattle.std.specs.Prelude.{true}
use Rattle.ioa_values.specs.Data.{truth}
use Rattle.ioa_values.specs.EntryTrees.{entries_in, entries_with}
use Rattle.ioa_values.proofs.EntryTrees.{keys_of_all}
use Rattle.ioa_values.proofs.FiniteSets.{set_made}
use Rattle.ioa_values.proofs.finite_set.FiniteSet.of_ascending.Goals as goal

pub invariant_of-result : goal.invariant_of-result
invariant_of-result c =
    let made : entries_in c.in_ok-root.root ≡ entries_with (truth true) c.args.members.now.items = search rules in
    rw made (set_made c.args.members.now.items c.of_all-kind.result c.requires c.canonical_values.ensures (omega arith) c.of_all-kind.ensures)

pub returns : goal.returns
returns c =
    let made : entries_in c.in_ok-root.root ≡ entries_with (truth true) c.args.members.now.items = search rules in
    rw made (keys_of_all (truth true) c.args.members.now.items)
