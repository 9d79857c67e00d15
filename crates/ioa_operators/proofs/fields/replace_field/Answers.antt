use Rattle.std.proofs.Common.{true}
use Rattle.ioa_operators.proofs.Canonicals.{answer_canonical, with_field_canonical}
use Rattle.ioa_operators.proofs.Memory.{answers, lacks_only_if}
use Rattle.ioa_operators.specs.Shapes.{with_field}
use Rattle.ioa_operators.proofs.fields.replace_field.Goals as goal

-- the value is what is meant
pub returns-clause-value : goal.returns-clause-value
returns-clause-value c = answers true c.put_field.result (with_field c.args.shape.now c.args.name.now c.args.new c.args.value) c.put_field.ensures

-- memory is wanted only in place of the value
pub returns-clause-memory : goal.returns-clause-memory
returns-clause-memory c = lacks_only_if true c.put_field.result (with_field c.args.shape.now c.args.name.now c.args.new c.args.value) c.put_field.ensures

-- what is meant is canonical
pub returns-clause-canonical : goal.returns-clause-canonical
returns-clause-canonical c = λ h k. answer_canonical true c.put_field.result _ c.put_field.ensures (with_field_canonical c.args.shape.now c.args.name.now c.args.new c.args.value h k)
