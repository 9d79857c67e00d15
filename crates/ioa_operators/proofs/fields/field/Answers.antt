use Rattle.std.proofs.Common.{true}
use Rattle.ioa_operators.proofs.Canonicals.{answer_canonical, field_canonical}
use Rattle.ioa_operators.proofs.Memory.{answers, lacks_only_if}
use Rattle.ioa_operators.specs.Shapes.{field_value}
use Rattle.ioa_operators.proofs.fields.field.Goals as goal

-- the value is what is meant
pub returns-clause-value : goal.returns-clause-value
returns-clause-value c = answers true c.field_of.result (field_value c.args.shape.now c.args.name.now c.args.value) c.field_of.ensures

-- memory is wanted only in place of the value
pub returns-clause-memory : goal.returns-clause-memory
returns-clause-memory c = lacks_only_if true c.field_of.result (field_value c.args.shape.now c.args.name.now c.args.value) c.field_of.ensures

-- what is meant is canonical
pub returns-clause-canonical : goal.returns-clause-canonical
returns-clause-canonical c = λ h. answer_canonical true c.field_of.result _ c.field_of.ensures (field_canonical c.args.shape.now c.args.name.now c.args.value h)
