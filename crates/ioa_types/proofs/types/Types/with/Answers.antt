use Rattle.std.proofs.Common.{inr, sym, ◌∙◌}
use Rattle.ioa_types.proofs.NamedShapes.{with_new, with_old}
use Rattle.ioa_types.proofs.types.Types.with.Goals as goal

pub returns-in-None : goal.returns-in-None
returns-in-None c =
    rw (← c.self.view_is) (with_new c.args.name c.args.shape c.self.inside.shapes.entries c.insert.new.self.entries (sym c.in_ok-insert.ensures.old ∙ c.in-None.is) c.in_ok-insert.ensures.entries)

pub returns-in-Some : goal.returns-in-Some
returns-in-Some c =
    inr (rw (← c.self.view_is) (with_old c.args.name c.args.shape c.in-Some.field-0 c.self.inside.shapes.entries (sym c.in_ok-insert.ensures.old ∙ c.in-Some.is)))
