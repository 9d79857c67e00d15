use Rattle.std.proofs.Common.{◌≡◌, inr, refl, length, arith}
use Rattle.ioa_terms.specs.View.{term_of}
use Rattle.ioa_sort_rules.proofs.Fields.{listed_same}
use Rattle.ioa_sort_rules.specs.Rows.{sides}
use Rattle.ioa_sorts.proofs.ListedParts.{inbox_listed, inbox_of_others, one_listed, other_than_one, two_listed, other_than_two, three_listed, other_than_three, uneven}
use Rattle.ioa_sorts.proofs.+sorting.Goals as goal

pub calls::call_one-returns-then-len-eq1 : goal.calls::call_one-returns-then-len-eq1
calls::call_one-returns-then-len-eq1 n c =
    let many : length c.args.parts.now.items ≡ 1 = omega arith in
    rw (one_listed term_of c.args.view.now c.args.name.now c.args.callee c.args.kind c.args.parts.now.items c.index.result.now many c.index.ensures) c.call_of_one.ensures

pub calls::call_one-returns-else-len-eq1 : goal.calls::call_one-returns-else-len-eq1
calls::call_one-returns-else-len-eq1 n c =
    inr (other_than_one term_of c.args.view.now c.args.name.now c.args.callee c.args.kind c.args.parts.now.items (λ h. omega arith))

pub calls::inbox_of-returns-then-len-eq1 : goal.calls::inbox_of-returns-then-len-eq1
calls::inbox_of-returns-then-len-eq1 n c =
    let many : length c.args.parts.now.items ≡ 1 = omega arith in
    rw (inbox_listed term_of c.args.view.now c.args.name.now c.args.callee (sides c.args.sides.now.other c.args.sides.now.whole) c.args.parts.now.items c.index.result.now many c.index.ensures) c.inbox_of_one.ensures

pub calls::inbox_of-returns-else-len-eq1 : goal.calls::inbox_of-returns-else-len-eq1
calls::inbox_of-returns-else-len-eq1 n c =
    inr (inbox_of_others term_of c.args.view.now c.args.name.now c.args.callee (sides c.args.sides.now.other c.args.sides.now.whole) c.args.parts.now.items (λ h. omega arith))

pub calls::call_two-returns-then-len-eq2 : goal.calls::call_two-returns-then-len-eq2
calls::call_two-returns-then-len-eq2 n c =
    let many : length c.args.parts.now.items ≡ 2 = omega arith in
    rw (two_listed term_of c.args.view.now c.args.name.now c.args.callee c.args.kind c.args.parts.now.items c.index.result.now c.index-then-len-eq2.result.now many c.index.ensures c.index-then-len-eq2.ensures) c.call_of_two.ensures

pub calls::call_two-returns-else-len-eq2 : goal.calls::call_two-returns-else-len-eq2
calls::call_two-returns-else-len-eq2 n c =
    inr (other_than_two term_of c.args.view.now c.args.name.now c.args.callee c.args.kind c.args.parts.now.items (λ h. omega arith))

pub calls::call_three-returns-then-len-eq3 : goal.calls::call_three-returns-then-len-eq3
calls::call_three-returns-then-len-eq3 n c =
    let many : length c.args.parts.now.items ≡ 3 = omega arith in
    rw (three_listed term_of c.args.view.now c.args.name.now c.args.callee c.args.parts.now.items c.index.result.now c.index-then-len-eq3.result.now c.index-then-len-eq3-2.result.now many c.index.ensures c.index-then-len-eq3.ensures c.index-then-len-eq3-2.ensures) c.call_of_three.ensures

pub calls::call_three-returns-else-len-eq3 : goal.calls::call_three-returns-else-len-eq3
calls::call_three-returns-else-len-eq3 n c =
    inr (other_than_three term_of c.args.view.now c.args.name.now c.args.callee c.args.parts.now.items (λ h. omega arith))

pub displays::fit_fields-returns : goal.displays::fit_fields-returns
displays::fit_fields-returns n c = rw (listed_same c.args.fields.now.items) c.fit_each.ensures

pub displays::fit_each-returns-else-len : goal.displays::fit_each-returns-else-len
displays::fit_each-returns-else-len n c =
    inr (rw (c.loop-position.invariant, uneven term_of c.args.view.now c.args.parts.now.items c.args.fields.now.items c.loop-position.position (omega arith) (λ h. omega arith)) refl)
