use Rattle.std.proofs.Common.{◌∙◌, ap}
use Rattle.ioa_values.specs.Collections.{without_member}
use Rattle.ioa_values.specs.EntryTrees.{entries_in}
use Rattle.ioa_values.proofs.Ascending.{keys_without}
use Rattle.ioa_values.proofs.FiniteSets.{set_without}
use Rattle.ioa_values.proofs.finite_set.FiniteSet.without.Goals as goal

pub invariant_of-result : goal.invariant_of-result
invariant_of-result c =
    rw c.in_ok-root.ensures.entries (set_without c.args.member.now (entries_in c.self.inside.root) c.self.inside.kind c.self.invariant)

pub returns : goal.returns
returns c =
    rw c.in_ok-root.ensures.entries
    (keys_without c.args.member.now (entries_in c.self.inside.root) ∙ ap (without_member c.args.member.now) c.self.view_is)
