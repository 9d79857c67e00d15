use Rattle.ioa_show.specs.Start.{start_line}
use Rattle.ioa_show.specs.Steps.{closing, step_lines}
use Rattle.std.specs.Prelude.{◌++◌}
use Rattle.ioa_show.proofs.Beginnings.{begins_before, begins_behind, if_failed}
use Rattle.ioa_show.proofs.steps.put_lines.Goals as goal

pub returns-in_err-put_steps-clause-beginning : goal.returns-in_err-put_steps-clause-beginning
returns-in_err-put_steps-clause-beginning g c =
    let lines = step_lines c.args.names.now 0 c.args.schedule.now c.args.course.now in
    let behind = closing c.args.invariants.now c.args.endings.now c.args.verdicts.now in
    if_failed c.from_residual.result
    (begins_behind (start_line c.args.names.now c.args.course.now) (lines ++ behind) c.args.paper.now c.put_start.new.paper c.put_steps.new.paper
    c.put_start.ensures
    (begins_before lines behind c.put_start.new.paper c.put_steps.new.paper c.in_err-put_steps.ensures.beginning))
