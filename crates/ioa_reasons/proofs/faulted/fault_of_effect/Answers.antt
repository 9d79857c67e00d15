use Rattle.std.proofs.Common.{rules}
use Rattle.ioa_terms.proofs.Performed.{all_resolved}
use Rattle.ioa_reasons.proofs.faulted.fault_of_effect.Goals as goal

pub stop_of_all-requires-clause-resolved : goal.stop_of_all-requires-clause-resolved
stop_of_all-requires-clause-resolved c = search (rules, all_resolved)
