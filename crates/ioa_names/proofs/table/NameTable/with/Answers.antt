use Rattle.std.proofs.Common.{inr}
use Rattle.ioa_names.proofs.Tables.{with_new, with_old}
use Rattle.ioa_names.proofs.table.NameTable.with.Goals as goal

pub returns-in_ok-push : goal.returns-in_ok-push
returns-in_ok-push c =
    rw (← c.self.view_is, ← c.in_ok-shape.ensures) (with_new c.args.name c.in_ok-shape.shape c.self.inside.names c.declare.new.self c.self.inside.shapes.items c.push.new.self.items c.in_ok-declare.field-0 c.self.invariant c.if-branch.true c.in_ok-declare.ensures.fresh c.in_ok-declare.ensures.ok c.in_ok-push.ensures.items)

pub returns-else-branch : goal.returns-else-branch
returns-else-branch c =
    inr (rw (← c.self.view_is, ← c.in_ok-shape.ensures) (with_old c.args.name c.in_ok-shape.shape c.self.inside.names c.self.inside.shapes.items c.in_ok-declare.field-0 c.self.invariant c.if-branch.false c.in_ok-declare.ensures.fresh))
