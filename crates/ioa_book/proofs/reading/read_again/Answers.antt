use Rattle.std.proofs.Common.{rules}
use Rattle.ioa_book.proofs.OwnReads.{next_place}
use Rattle.ioa_book.proofs.reading.read_again.Goals as goal

pub loop-position-preserved : goal.loop-position-preserved
loop-position-preserved g c =
    next_place c.args.slots.now c.loop-position.position _ c.args.held.now c.loop-position.places.items c.read_into.new.places.items _ (search rules) (search rules) c.in_ok-read_into.ensures.before c.in_ok-read_into.ensures.here c.at_slot.ensures c.loop-position.invariant.1
