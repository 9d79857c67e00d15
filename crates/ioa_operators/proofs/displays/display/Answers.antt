use Rattle.ioa_operators.proofs.Canonicals.{answer_canonical, display_canonical}
use Rattle.ioa_operators.proofs.Memory.{answers, lacks_only_if}
use Rattle.ioa_operators.specs.Shapes.{display_takes_memory, display_value}
use Rattle.ioa_operators.proofs.displays.display.Goals as goal

-- the value is what is meant
pub returns-clause-value : goal.returns-clause-value
returns-clause-value c = answers (display_takes_memory c.args.form c.args.shape.now) c.make_display.result (display_value c.args.form c.args.shape.now c.args.parts.items) c.make_display.ensures

-- only a call that takes memory lacks it
pub returns-clause-memory : goal.returns-clause-memory
returns-clause-memory c = lacks_only_if (display_takes_memory c.args.form c.args.shape.now) c.make_display.result (display_value c.args.form c.args.shape.now c.args.parts.items) c.make_display.ensures

-- what is meant is canonical
pub returns-clause-canonical : goal.returns-clause-canonical
returns-clause-canonical c = λ h. answer_canonical (display_takes_memory c.args.form c.args.shape.now) c.make_display.result _ c.make_display.ensures (display_canonical c.args.form c.args.shape.now c.args.parts.items h)
