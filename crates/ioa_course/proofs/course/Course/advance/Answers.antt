use Rattle.std.proofs.Common.{◌∙◌, sym}
use Rattle.ioa_course.proofs.Moves.{names_kept}
use Rattle.ioa_course.proofs.course.Course.advance.Goals as goal

pub invariant_of-self : goal.invariant_of-self
invariant_of-self c =
    c.self.invariant
    ∙ sym (names_kept c.move_all.result c.args.entry.now c.self.inside.confs.items c.move_all.new.confs.items c.move_all.ensures.answer c.move_all.ensures.kept)
