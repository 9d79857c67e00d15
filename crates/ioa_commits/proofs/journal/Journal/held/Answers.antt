use Rattle.std.proofs.Common.{◌∙◌}
use Rattle.ioa_commits.proofs.Commits.{versions_kept}
use Rattle.ioa_commits.proofs.journal.Journal.held.Goals as goal

pub returns : goal.returns
returns g c = c.as_slice.ensures.value ∙ rw (← c.self.view_is) (versions_kept _ _ _ _ _ c.self.invariant.0)
