use Rattle.std.specs.Arc.{arc_value}
use Rattle.ioa_pipeline.proofs.Reported.{reported}
use Rattle.ioa_pipeline.proofs.whole_run.run_system.Goals as goal

pub returns-clause-written : goal.returns-clause-written
returns-clause-written g c =
    reported c.args.text.now c.args.options.now (arc_value c.in_ok-system.system) c.in_ok-system.record c.in_ok-system.endings.items
    (g.O.Out.bytes c.args.out.now) (g.O.Out.bytes c.write_report-written.new.out) (g.O.Out.failed c.write_report-written.new.out)
    c.write_report-written.result c.in_ok-system.ensures.left (rw (← c.deref-2.ensures.value, ← c.deref.ensures) c.write_report-written.ensures)
