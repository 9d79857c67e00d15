use Rattle.std.proofs.Common.{◌∙◌, sym}
use Rattle.ioa_show.specs.Steps.{steps_text}
use Rattle.ioa_show.proofs.Beginnings.{parts_put}
use Rattle.ioa_show.proofs.steps.json.Goals as goal

-- the output that comes back is the one that was lent
pub returns : goal.returns
returns g c =
    let whole = steps_text c.args.system.now c.args.schedule.now c.args.endings.now c.args.verdicts.now in
    let begun = parts_put whole c.new-paper.result c.put_all-walked.new.paper (g.O.Out.bytes c.args.out.now) _ _ c.put_all-walked.result c.finish-out.result.1
    c.new-paper.ensures.start c.new-paper.ensures.text c.put_all-walked.ensures.whole c.put_all-walked.ensures.beginning
    c.put_all-walked.ensures.part c.finish-out.ensures.sent in
    let back = c.out-1.given.1 (sym (c.finish-out.ensures.output ∙ c.put_all-walked.ensures.part.1 ∙ c.new-paper.ensures.output)) in
    rw (c.outcome_of.ensures, back) begun
