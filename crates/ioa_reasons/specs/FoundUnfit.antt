-- An argument that is not of the sort of its parameter, as the code finds it (view).
use Rattle.std.specs.Prelude.{ℕ, List}
use Rattle.ioa_values.specs.Data.{Data}
use Rattle.ioa_reasons.specs.declared.unfit.Unfit.{Unfit}

abbrev pub unfit_found : Unfit → List ℕ × Data
unfit_found u = (u.name.now, u.value)
