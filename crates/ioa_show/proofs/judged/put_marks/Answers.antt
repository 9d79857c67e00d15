use Rattle.std.proofs.Common.{◌∙◌, ap}
use Rattle.ioa_paper.specs.Papers.{and_text}
use Rattle.ioa_show.proofs.Judgements.{marks_are}
use Rattle.ioa_show.proofs.judged.put_marks.Goals as goal

pub returns : goal.returns
returns g c =
    c.put_mark_end.ensures ∙ c.put_open_marks-has_some.ensures
    ∙ ap (and_text c.args.paper.now) (marks_are c.args.passed c.args.invariants.now c.args.verdicts.now)
