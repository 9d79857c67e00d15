use Rattle.ioa_commits.proofs.Commits.{components_kept}
use Rattle.ioa_commits.proofs.journal.Journal.index.Goals as goal

pub returns : goal.returns
returns g c = rw (← c.self.view_is) (components_kept _ _ _ _ _ c.self.invariant.0)
