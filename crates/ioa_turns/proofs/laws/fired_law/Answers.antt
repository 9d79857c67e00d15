use Rattle.ioa_turns.proofs.Fired.{fired_named, fired_kept, fired_kind}
use Rattle.ioa_turns.proofs.laws.fired_law.Goals as goal

pub returns : goal.returns
returns c = record { name = fired_named; arguments = fired_kept; kind = fired_kind }
