use Rattle.std.proofs.Common.{◌∙◌, ap, arith, inr, Ok, refl, rules, sym}
use Rattle.ioa_course.proofs.Moves.{next_place, one_missing, one_moved}
use Rattle.ioa_course.proofs.Standing.{found_at, found_nowhere, stands_in}
use Rattle.ioa_course.proofs.moving.move_one.Goals as goal

pub returns-in_default-clause-answer : goal.returns-in_default-clause-answer
returns-in_default-clause-answer c =
    inr (one_missing c.args.node c.args.entry.now c.args.confs.now.items (found_nowhere c.args.node c.args.index.now c.args.confs.now.items c.requires c.in_default.ensures))

pub index-requires : goal.index-requires
index-requires c =
    let there = stands_in c.args.node c.in-Some.slot c.args.index.now c.args.confs.now.items c.requires c.in-Some.ensures in
    omega (arith, there.within, c.args.confs.now.ok.0)

pub put_in-requires : goal.put_in-requires
put_in-requires c =
    let found = found_at c.args.node c.in-Some.slot c.args.index.now c.args.confs.now.items c.index.result.now c.requires c.in-Some.ensures c.index.ensures in
    next_place c.args.entry.now c.args.node c.in-Some.slot c.args.index.now c.args.confs.now.items c.args.confs.now.items c.index.result.now c.in_ok-next.next c.requires c.in-Some.ensures found c.in_ok-next.ensures refl

pub returns-in_err-next-clause-answer : goal.returns-in_err-next-clause-answer
returns-in_err-next-clause-answer c =
    let found = found_at c.args.node c.in-Some.slot c.args.index.now c.args.confs.now.items c.index.result.now c.requires c.in-Some.ensures c.index.ensures in
    search rules

pub returns-clause-answer : goal.returns-clause-answer
returns-clause-answer c =
    let found = found_at c.args.node c.in-Some.slot c.args.index.now c.args.confs.now.items c.index.result.now c.requires c.in-Some.ensures c.index.ensures in
    one_moved c.args.node c.args.entry.now c.args.confs.now.items c.index.result.now c.in_ok-next.next found c.in_ok-next.ensures ∙ ap Ok (sym c.put_in.ensures)
