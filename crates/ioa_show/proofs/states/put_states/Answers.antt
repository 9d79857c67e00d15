use Rattle.std.specs.Prelude.{◌++◌, codes}
use Rattle.ioa_show.specs.Judged.{marks_at}
use Rattle.ioa_show.specs.States.{head_text, later_states}
use Rattle.ioa_show.proofs.Beginnings.{begins_before, begins_behind, if_failed}
use Rattle.ioa_show.proofs.states.put_states.Goals as goal

pub returns-in_err-put_later-clause-beginning : goal.returns-in_err-put_later-clause-beginning
returns-in_err-put_later-clause-beginning g c =
    let later = later_states c.args.names.now (marks_at c.args.invariants.now c.args.verdicts.now) 0 c.args.schedule.now c.args.course.now in
    if_failed c.from_residual.result
    (begins_behind (head_text c.args.names.now (marks_at c.args.invariants.now c.args.verdicts.now) c.args.is_short c.args.course.now) (later ++ codes "\n]}\n") c.args.paper.now c.put_head.new.paper c.put_later.new.paper
    c.put_head.ensures
    (begins_before later (codes "\n]}\n") c.put_head.new.paper c.put_later.new.paper c.in_err-put_later.ensures.beginning))
