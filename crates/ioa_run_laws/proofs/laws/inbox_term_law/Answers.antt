use Rattle.ioa_run_laws.proofs.InboxTerms.{inbox_is}
use Rattle.ioa_run_laws.proofs.laws.inbox_term_law.Goals as goal

pub returns : goal.returns
returns c = record { value = inbox_is }
