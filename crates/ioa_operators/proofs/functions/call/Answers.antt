use Rattle.ioa_operators.proofs.Canonicals.{answer_canonical, call_canonical}
use Rattle.ioa_operators.proofs.Memory.{answers, lacks_only_if}
use Rattle.ioa_operators.specs.Operators.{call_takes_memory, call_value}
use Rattle.ioa_operators.proofs.functions.call.Goals as goal

-- the value is what is meant
pub returns-clause-value : goal.returns-clause-value
returns-clause-value c = answers (call_takes_memory c.args.function) c.apply_function.result (call_value c.args.function c.args.parts.items) c.apply_function.ensures

-- only a call that takes memory lacks it
pub returns-clause-memory : goal.returns-clause-memory
returns-clause-memory c = lacks_only_if (call_takes_memory c.args.function) c.apply_function.result (call_value c.args.function c.args.parts.items) c.apply_function.ensures

-- what is meant is canonical
pub returns-clause-canonical : goal.returns-clause-canonical
returns-clause-canonical c = λ h. answer_canonical (call_takes_memory c.args.function) c.apply_function.result _ c.apply_function.ensures (call_canonical c.args.function c.args.parts.items h)
