use Rattle.std.proofs.Common.{subst}
use Rattle.ioa_values.specs.Canonical.{IsCanonical}
use Rattle.ioa_values.proofs.Canonicals.{of_form}
use Rattle.ioa_values.proofs.value.Value.canonical_law.Goals as goal

pub returns : goal.returns
returns c = subst IsCanonical c.self.view_is (of_form c.self.inside.form c.self.invariant)
