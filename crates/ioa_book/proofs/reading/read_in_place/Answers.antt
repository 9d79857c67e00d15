use Rattle.std.proofs.Common.{◌∙◌, rules}
use Rattle.ioa_book.proofs.OwnReads.{next_place, same_so_far}
use Rattle.ioa_book.proofs.reading.read_in_place.Goals as goal

pub loop-position-preserved : goal.loop-position-preserved
loop-position-preserved g c =
    let read = c.in_ok-was_there.ensures in
    let next = next_place c.args.slots.now c.loop-position.position _ c.args.held.now c.loop-position.places
    c.read_here.new.places _ (search rules) (search rules) read.before read.here c.at_slot.ensures
    c.loop-position.invariant.read in
    record {
      many = read.many ∙ c.loop-position.invariant.many;
      read = next.1;
      same = same_so_far _ _ _ _ _ c.loop-position.invariant.same read.same;
    }
