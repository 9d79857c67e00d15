use Rattle.std.proofs.Common.{◌<◌, length, rules, arith}
use Rattle.ioa_core.specs.Replies.{is_memory}
use Rattle.ioa_core.proofs.Replies.{after_next, none_more, told_next}
use Rattle.ioa_core.proofs.machine.interleave.Goals as goal

pub loop-event-preserved : goal.loop-event-preserved
loop-event-preserved g c =
    let within : c.loop-event.event-index < length c.args.events.now = search rules in
    let old = c.args.core.now in
    let now = c.loop-event.core in
    let new = c.answer.new.self in
    let events = c.args.events.now in
    let i = c.loop-event.event-index in
    let e = c.event-item.result in
    let told = c.loop-event.replies.items in
    let kept = c.loop-event.invariant in
    record {
      told =
          rw c.push_reserved.ensures.items
          (told_next old now new events i e told c.in-Ok.reply within c.event-item.is kept.stands c.in-Ok.ensures.answer kept.told);
      stands = after_next old now new events i e told c.in-Ok.reply within c.event-item.is kept.stands c.in-Ok.ensures.answer;
      many = omega (arith, c.push_reserved.ensures.len, kept.many);
      room = omega (arith, c.push_reserved.ensures.capacity, kept.room);
      calm = rw c.push_reserved.ensures.items (none_more is_memory told c.in-Ok.reply kept.calm c.in-Ok.ensures.calm);
    }
