use Rattle.ioa_values.proofs.Equality.{same_is}
use Rattle.ioa_values.proofs.value.Value.equals.Goals as goal

pub returns-clause-equality : goal.returns-clause-equality
returns-clause-equality c = rw c.is_same.ensures (same_is c.args.self.now c.args.other.now)
