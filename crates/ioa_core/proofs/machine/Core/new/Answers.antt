use Rattle.std.proofs.Common.{refl}
use Rattle.ioa_core.proofs.Told.{no_hands_seen}
use Rattle.ioa_core.proofs.machine.Core.new.Goals as goal

pub returns : goal.returns
returns g c = rw (c.in_ok-book.ensures, c.in_ok-hands.ensures, c.in_ok-counts.ensures, no_hands_seen g.row.O.Denot c.args.hands) refl
