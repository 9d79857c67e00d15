-- Shapes that all values of a kind have (form).
use Rattle.std.specs.Prelude.{◌≡◌, true}
use Rattle.ioa_values.specs.Data.{Data}
use Rattle.ioa_values.specs.ItemKinds.{is_of_kind}
use Rattle.ioa_values.specs.declared.item_kind.ItemKind.{ItemKind}
use Rattle.ioa_operators.specs.Shapes.{PlainShape, has_shape}

abbrev pub AdmitsKind : PlainShape → ItemKind → Type 0
AdmitsKind s kind = (d : Data) → is_of_kind kind d ≡ true → has_shape s d ≡ true
