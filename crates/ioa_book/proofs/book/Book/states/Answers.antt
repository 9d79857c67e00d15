use Rattle.std.proofs.Common.{rules}
use Rattle.ioa_book.proofs.OwnReads.{confs_held}
use Rattle.ioa_book.proofs.book.Book.states.Goals as goal

pub returns : goal.returns
returns g c = rw (confs_held c.args.self.now c.held.result.now (search rules)) at c.states_of.ensures
