use Rattle.std.specs.Arc.{arc_value}
use Rattle.ioa_pipeline.proofs.Shown.{run_shown}
use Rattle.ioa_pipeline.proofs.tracing.trace_text.Goals as goal

pub returns-clause-shown : goal.returns-clause-shown
returns-clause-shown g c =
    run_shown c.args.text.now c.args.options.now (arc_value c.in_ok-system.system) c.in_ok-system.record
    c.in_ok-system.endings.items c.args.format (g.O.Out.bytes c.args.out.now)
    (g.O.Out.bytes c.show_judged.new.out) (g.O.Out.failed c.show_judged.new.out) c.show_judged.result
    c.in_ok-system.ensures.left (rw (← c.deref-2.ensures.value, ← c.deref.ensures) c.show_judged.ensures)
