use Rattle.std.proofs.Common.{◌≡◌, ◌+◌, ◌∙◌, rules}
use Rattle.ioa_check.proofs.DeclaredInvariants.{invariant_behind}
use Rattle.ioa_check.proofs.invariants.invariants_of.Goals as goal

pub loop-position-preserved : goal.loop-position-preserved
loop-position-preserved c =
    let constants = c.args.section.now.constants in
    let ps = c.args.section.now.programs in
    let cs = c.args.section.now.channels in
    let items = c.args.invariants.now.items in
    let within = rw c.deref-invariant-items.ensures.value at c.loop-position-test.true in
    let at = rw c.deref-invariant-items.ensures.value at c.invariant-item.is in
    let index : c.in_ok-index.index ≡ c.args.first + c.loop-position.position = search rules in
    let made = rw index at c.in_ok-one.ensures.found in
    rw (c.in_ok-one.ensures.named, c.in_ok-push.ensures.items)
    (c.loop-position.invariant ∙ invariant_behind constants ps cs c.args.first c.loop-position.position c.loop-position.names items c.invariant-item.result c.loop-position.found.items c.in_ok-one.one within at made)
