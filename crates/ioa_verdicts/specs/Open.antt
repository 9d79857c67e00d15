-- Verdicts that are open: those that hold so far (form).
use Rattle.std.specs.Prelude.{ℕ, ◌+◌, Bool, false, if◌then◌else◌, List, [], ◌∷◌, Option, Some, None}
use Rattle.ioa_verdicts.specs.Verdicts.{is_open}
use Rattle.ioa_verdicts.specs.declared.verdict.Verdict.{Verdict}

-- whether there is a verdict, and it is open
abbrev pub is_open_at : Option Verdict → Bool
is_open_at None = false
is_open_at (Some f) = is_open f

-- how many verdicts are open
unfoldable pub open_count : List Verdict → ℕ
open_count [] = 0
open_count (f ∷ more) = (if is_open f then 1 else 0) + open_count more
