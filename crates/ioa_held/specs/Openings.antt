-- What is known of a book that was opened with a system (profile).
use Rattle.std.specs.Prelude.{◌≡◌}
use Rattle.ioa_book.specs.BookLaws.{IsLawful}
use Rattle.ioa_commits.specs.Books.{PlainBook}
use Rattle.ioa_compose.specs.Start.{start}
use Rattle.ioa_system.specs.Systems.{SystemParts}

-- a lawful book that begins at the start of a system (Lynch 8.1)
pub record BeginsAt (s : SystemParts) (b : PlainBook) : Type 0 where
  pub lawful : IsLawful b
  pub start : b.start ≡ start s
