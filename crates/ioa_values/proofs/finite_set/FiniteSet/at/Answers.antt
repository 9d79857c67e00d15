use Rattle.std.proofs.Common.{◌≡◌, ◌<◌, Some, length, subst, sym}
use Rattle.std.specs.Prelude.{slice_get, List}
use Rattle.ioa_values.specs.Data.{Data}
use Rattle.ioa_values.specs.EntryTrees.{entries_in}
use Rattle.ioa_values.proofs.FiniteSets.{entry_within, key_got}
use Rattle.ioa_values.proofs.finite_set.FiniteSet.at.Goals as goal

pub entry_at-requires : goal.entry_at-requires
entry_at-requires c =
    entry_within (entries_in c.self.inside.root) c.args.position (subst (λ (ds : List Data). c.args.position < length ds) (sym c.self.view_is) c.requires)

pub returns : goal.returns
returns c =
    subst (λ (ds : List Data). slice_get ds c.args.position ≡ Some c.entry_at.result.now.0) c.self.view_is
    (key_got (entries_in c.self.inside.root) c.args.position c.entry_at.result.now.0 c.entry_at.result.now.1 c.entry_at.ensures)
