-- A node of a run by any number of workers, as far as it has come (profile).
use Rattle.std.specs.Prelude.{◌≡◌, ℕ, ℤ, Ok}
use Rattle.std.specs.List.{Contains}
use Rattle.ioa_system.specs.Parts.{Parts}
use Rattle.ioa_system.specs.Systems.{SystemParts}
use Rattle.ioa_commits.specs.Books.{PlainBook}
use Rattle.ioa_commits.specs.Versions.{read_confs}
use Rattle.ioa_book.specs.Looks.{PlainSnapshot}
use Rattle.ioa_passes.specs.Looks.{view_answer}
use Rattle.ioa_passes.specs.Passes.{PlainPass}
use Rattle.ioa_held.specs.Openings.{BeginsAt}
use Rattle.ioa_record.specs.declared.ending.Ending.{Ending}
use Rattle.ioa_schedules.specs.Turns.{TurnEnd}
use Rattle.ioa_turns.specs.NodeTurns.{PlainProgress, past_fire, progress_at, turn_at, with_ending}

-- a look that some book of a run of a system shows, under any pass: the book is lawful and begins at the start of the
-- system
pub record IsShownOf (s : SystemParts) (look : PlainSnapshot) : Type 0 where
  pub book : PlainBook
  pub begins : BeginsAt s book
  pub pass : PlainPass
  pub node : ℤ
  pub shown : view_answer book pass node ≡ Ok look

-- how far a node of a system may have come, whatever is recorded between its looks: it begins as the nodes of a run do;
-- a turn on such a look takes it on; its block moves past the `fire` at which it stands; its attempts are used up; and
-- it ends
pub data IsUnderWay (s : SystemParts) : PlainProgress → Type 0 where
  first : {p : Parts} {attempts : ℕ} → Contains s.programs p → IsUnderWay s (progress_at attempts p)
  turned : {p : PlainProgress} {look : PlainSnapshot} {t : TurnEnd × PlainProgress} → IsUnderWay s p →
      IsShownOf s look → turn_at (read_confs look.reads) p ≡ Ok t → IsUnderWay s t.1
  passed : {p : PlainProgress} → IsUnderWay s p → IsUnderWay s (past_fire p)
  used : {p : PlainProgress} {attempts : ℕ} → IsUnderWay s p → IsUnderWay s (record p { attempts = attempts })
  ended : {p : PlainProgress} {e : Ending} → IsUnderWay s p → IsUnderWay s (with_ending e p)
