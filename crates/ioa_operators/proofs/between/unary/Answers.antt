use Rattle.std.proofs.Common.{false}
use Rattle.ioa_operators.proofs.Canonicals.{answer_canonical, unary_canonical}
use Rattle.ioa_operators.proofs.Memory.{answers, lacks_only_if}
use Rattle.ioa_operators.specs.Operators.{unary_value}
use Rattle.ioa_operators.proofs.between.unary.Goals as goal

-- the value is what is meant
pub returns-clause-value : goal.returns-clause-value
returns-clause-value c = answers false c.before_value.result (unary_value c.args.operator c.args.value.now) c.before_value.ensures

-- the call takes no memory
pub returns-clause-memory : goal.returns-clause-memory
returns-clause-memory c = lacks_only_if false c.before_value.result (unary_value c.args.operator c.args.value.now) c.before_value.ensures

-- what is meant is canonical
pub returns-clause-canonical : goal.returns-clause-canonical
returns-clause-canonical c = answer_canonical false c.before_value.result _ c.before_value.ensures (unary_canonical c.args.operator c.args.value.now)
