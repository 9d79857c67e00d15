use Rattle.ioa_book.proofs.StandsExactly.{stands_exactly}
use Rattle.ioa_book.proofs.laws.stands_law.Goals as goal

pub returns : goal.returns
returns c = stands_exactly
