use Rattle.std.proofs.Common.{arith, inr, refl, rules}
use Rattle.ioa_compose.proofs.Components.{component_names-put_conf}
use Rattle.ioa_course.proofs.Moves.{both_moved, next_place, node_missing, queue_missing}
use Rattle.ioa_course.proofs.Standing.{found_at, found_nowhere, stands_in}
use Rattle.ioa_course.proofs.moving.move_two.Goals as goal

pub returns-in_default-clause-answer : goal.returns-in_default-clause-answer
returns-in_default-clause-answer c =
    inr (queue_missing c.args.queue c.args.node c.args.entry.now c.args.confs.now.items (found_nowhere c.args.queue c.args.index.now c.args.confs.now.items c.requires c.in_default.ensures))

pub returns-in_default-slot_of-clause-answer : goal.returns-in_default-slot_of-clause-answer
returns-in_default-slot_of-clause-answer c =
    inr (node_missing c.args.queue c.args.node c.args.entry.now c.args.confs.now.items (found_nowhere c.args.node c.args.index.now c.args.confs.now.items c.requires c.in_default-slot_of.ensures))

pub index-requires : goal.index-requires
index-requires c =
    let there = stands_in c.args.queue c.in-Some.first c.args.index.now c.args.confs.now.items c.requires c.in-Some.ensures in
    omega (arith, there.within, c.args.confs.now.ok.0)

pub index-requires-2 : goal.index-requires-2
index-requires-2 c =
    let there = stands_in c.args.node c.in-Some-slot_of.second c.args.index.now c.args.confs.now.items c.requires c.in-Some-slot_of.ensures in
    omega (arith, there.within, c.args.confs.now.ok.0)

pub returns-in_err-next_queue-clause-answer : goal.returns-in_err-next_queue-clause-answer
returns-in_err-next_queue-clause-answer c =
    let found_queue = found_at c.args.queue c.in-Some.first c.args.index.now c.args.confs.now.items c.index.result.now c.requires c.in-Some.ensures c.index.ensures in
    let found_node = stands_in c.args.node c.in-Some-slot_of.second c.args.index.now c.args.confs.now.items c.requires c.in-Some-slot_of.ensures in
    search rules

pub returns-in_err-next_node-clause-answer : goal.returns-in_err-next_node-clause-answer
returns-in_err-next_node-clause-answer c =
    let found_queue = found_at c.args.queue c.in-Some.first c.args.index.now c.args.confs.now.items c.index.result.now c.requires c.in-Some.ensures c.index.ensures in
    let found_node = found_at c.args.node c.in-Some-slot_of.second c.args.index.now c.args.confs.now.items c.index-2.result.now c.requires c.in-Some-slot_of.ensures c.index-2.ensures in
    search rules

pub put_in-requires : goal.put_in-requires
put_in-requires c =
    let found_queue = found_at c.args.queue c.in-Some.first c.args.index.now c.args.confs.now.items c.index.result.now c.requires c.in-Some.ensures c.index.ensures in
    next_place c.args.entry.now c.args.queue c.in-Some.first c.args.index.now c.args.confs.now.items c.args.confs.now.items c.index.result.now c.in_ok-next_queue.next_queue c.requires c.in-Some.ensures found_queue c.in_ok-next_queue.ensures refl

pub put_in-requires-2 : goal.put_in-requires-2
put_in-requires-2 c =
    let found_node = found_at c.args.node c.in-Some-slot_of.second c.args.index.now c.args.confs.now.items c.index-2.result.now c.requires c.in-Some-slot_of.ensures c.index-2.ensures in
    next_place c.args.entry.now c.args.node c.in-Some-slot_of.second c.args.index.now c.args.confs.now.items _ c.index-2.result.now c.in_ok-next_node.next_node c.requires c.in-Some-slot_of.ensures found_node c.in_ok-next_node.ensures
    (rw c.put_in.ensures (component_names-put_conf c.in_ok-next_queue.next_queue c.args.confs.now.items))

pub returns-clause-answer : goal.returns-clause-answer
returns-clause-answer c =
    let found_queue = found_at c.args.queue c.in-Some.first c.args.index.now c.args.confs.now.items c.index.result.now c.requires c.in-Some.ensures c.index.ensures in
    let found_node = found_at c.args.node c.in-Some-slot_of.second c.args.index.now c.args.confs.now.items c.index-2.result.now c.requires c.in-Some-slot_of.ensures c.index-2.ensures in
    rw (c.put_in-2.ensures, c.put_in.ensures)
    (both_moved c.args.queue c.args.node c.args.entry.now c.args.confs.now.items c.index.result.now c.in_ok-next_queue.next_queue c.index-2.result.now c.in_ok-next_node.next_node found_queue c.in_ok-next_queue.ensures found_node c.in_ok-next_node.ensures)
