use Rattle.ioa_commits.proofs.Commits.{log_leads}
use Rattle.ioa_commits.proofs.journal.Journal.log.Goals as goal

pub returns-clause-leads : goal.returns-clause-leads
returns-clause-leads g c = rw (← c.self.view_is) (log_leads _ _ _ _ _ c.self.invariant.0)
