use Rattle.ioa_operators.proofs.Canonicals.{answer_canonical, binary_canonical}
use Rattle.ioa_operators.proofs.Memory.{answers, lacks_only_if}
use Rattle.ioa_operators.specs.Operators.{operator_takes_memory, binary_value}
use Rattle.ioa_operators.proofs.between.binary.Goals as goal

-- the value is what is meant
pub returns-clause-value : goal.returns-clause-value
returns-clause-value c = answers (operator_takes_memory c.args.operator) c.between_values.result (binary_value c.args.operator c.args.left.now c.args.right.now) c.between_values.ensures

-- only a call that takes memory lacks it
pub returns-clause-memory : goal.returns-clause-memory
returns-clause-memory c = lacks_only_if (operator_takes_memory c.args.operator) c.between_values.result (binary_value c.args.operator c.args.left.now c.args.right.now) c.between_values.ensures

-- what is meant is canonical
pub returns-clause-canonical : goal.returns-clause-canonical
returns-clause-canonical c = λ h k. answer_canonical (operator_takes_memory c.args.operator) c.between_values.result _ c.between_values.ensures (binary_canonical c.args.operator c.args.left.now c.args.right.now h k)
