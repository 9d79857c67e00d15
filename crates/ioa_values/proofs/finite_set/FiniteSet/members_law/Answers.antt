use Rattle.std.proofs.Common.{subst}
use Rattle.ioa_values.specs.Canonical.{AllCanonical}
use Rattle.ioa_values.specs.EntryTrees.{entries_in}
use Rattle.ioa_values.proofs.FiniteSets.{canonical_keys}
use Rattle.ioa_values.proofs.finite_set.FiniteSet.members_law.Goals as goal

pub returns-clause-canonical : goal.returns-clause-canonical
returns-clause-canonical c =
    subst AllCanonical c.self.view_is (canonical_keys (entries_in c.self.inside.root) c.self.invariant.entries.entries.canonical)
