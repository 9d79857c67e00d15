use Rattle.ioa_run_laws.proofs.DecidedAttempts.{attempted_length, decided, further, goes_on, older_exactly, seen_length}
use Rattle.ioa_run_laws.proofs.attempts.attempt_law.Goals as goal

pub returns : goal.returns
returns c = record {
  decided = decided;
  older = older_exactly;
  goes_on = goes_on;
  further = further;
  seen = seen_length;
  attempted = attempted_length;
}
