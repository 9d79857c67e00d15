-- The values of arguments, however they are kept (view).
use Rattle.std.specs.Prelude.{List}
use Rattle.ioa_values.specs.Data.{Data}
use Rattle.ioa_actions.specs.declared.action.ValueList.{ValueList}
use Rattle.ioa_actions.specs.declared.action.ValueList.TheVariants.{One, Many}

abbrev pub listed : ValueList → List Data
listed (One values) = values
listed (Many values) = values.items
