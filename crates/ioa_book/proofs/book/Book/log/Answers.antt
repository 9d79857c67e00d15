use Rattle.std.proofs.Common.{rules}
use Rattle.ioa_book.proofs.BookLaws.{lawful}
use Rattle.ioa_book.proofs.book.Book.log.Goals as goal

pub returns-clause-law : goal.returns-clause-law
returns-clause-law g c = lawful c.args.self.now (search rules) (search rules)
