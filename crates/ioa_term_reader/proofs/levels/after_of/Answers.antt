use Rattle.std.proofs.Common.{sym, ◌∙◌}
use Rattle.ioa_term_reader.proofs.OtherMarks.{after_other}
use Rattle.ioa_term_reader.proofs.levels.after_of.Goals as goal

pub returns-in_default : goal.returns-in_default
returns-in_default c = c.infix_after.ensures ∙ sym (after_other c.args.mark c.in_default.not-Dot c.in_default.not-OpenSquare)
