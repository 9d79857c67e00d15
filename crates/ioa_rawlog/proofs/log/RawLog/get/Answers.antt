use Rattle.std.proofs.Common.{◌≡◌, ◌-◌, ◌*◌, ◌/◌, ◌%◌, refl, sym, ap, ◌∙◌, arith}
use Rattle.std.specs.List.{slice_get}
use Rattle.ioa_rawlog.specs.Blocks.{joined}
use Rattle.ioa_rawlog.proofs.Laying.{item_copied, step_past, step_onto}
use Rattle.ioa_rawlog.proofs.log.RawLog.get.Goals as goal

pub loop-preserved : goal.loop-preserved
loop-preserved g c =
    let before = c.loop.invariant in
    let step = step_past c.next.result c.loop.left c.next.new.self c.args.index c.loop.counter c.next.ensures before.laid (omega (arith, c.loop-test.true)) in
    record { laid = step.0; found = step.1 ∙ before.found; within = omega (arith, c.loop-test.true); rounds = refl }

pub returns : goal.returns
returns g c =
    let before = c.loop.invariant in
    let i = c.args.index in
    let all_gone : c.loop.counter ≡ i / 64 = omega (arith, c.loop-test.false, before.within) in
    let onto = step_onto c.in_ok-next.field-0.now c.loop.left c.next-2.new.self i c.in_ok-next.ensures before.laid in
    let found = ap (λ k. slice_get (joined c.loop.left) (i - 64 * k)) (sym all_gone) ∙ before.found in
    item_copied c.deref.result.now (i % 64) c.get.result c.get.ensures.lookup ∙ ap (λ items. slice_get items (i % 64)) c.deref.ensures.value ∙ sym onto ∙ found
