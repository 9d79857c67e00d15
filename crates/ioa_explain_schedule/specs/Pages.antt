-- What is told of the lines of a schedule (profile).
use Rattle.std.specs.Prelude.{◌≡◌, ◌++◌, ◌==◌, ℕ, if◌then◌else◌, List, [], length, Result, Ok, Err, codes}
use Rattle.std.specs.Fmt.{decimal}
use Rattle.ioa_place.specs.declared.place.Place.{Place}
use Rattle.ioa_place.specs.Lines.{place_at}
use Rattle.ioa_place.specs.Pictures.{picture}
use Rattle.ioa_schedule_check.specs.declared.fault.ScheduleFault.{ScheduleFault}
use Rattle.ioa_schedule_check.specs.declared.fault.ScheduleFault.TheVariants as fault

-- the first line: the name of the text, the line and the column of a place, and what is there
abbrev pub title : List ℕ → Place → List ℕ → List ℕ
title name place what =
    name ++ (codes ":" ++ (decimal place.line ++ (codes ":" ++ (decimal place.column
    ++ (codes ": " ++ (what ++ codes "\n"))))))

-- a line of details
abbrev pub detail : List ℕ → List ℕ
detail text = codes "      " ++ (text ++ codes "\n")

-- a line of details, if there are any
abbrev pub detail_if_any : List ℕ → List ℕ
detail_if_any text = if length text == 0 then [] else detail text

-- the number and the name of a refusal, without its place
abbrev pub fault_title : ScheduleFault → List ℕ
fault_title (fault.Undefined k) = codes "1 Undefined"
fault_title (fault.Range k) = codes "2 Range"
fault_title fault.Memory = codes "3 Memory"
fault_title (fault.NotStep k) = codes "60 NotStep"
fault_title (fault.BadLine k) = codes "61 BadLine"

-- what is told of lines that are refused, in a part of a text, with details
abbrev pub refused_text : List ℕ → List ℕ → ScheduleFault → (offset end : ℕ) → List ℕ → List ℕ
refused_text name text f offset end details =
    title name (place_at text offset) (fault_title f) ++ (picture text offset end ++ details)

-- the number and the name of the refusal, a part of the text and its place, and details
pub record TellsRefused (name text : List ℕ) (f : ScheduleFault) (page : List ℕ) : Type 0 where
  pub offset : ℕ
  pub end : ℕ
  pub details : List ℕ
  pub told : page ≡ refused_text name text f offset end details

-- what is told of an answer about lines
abbrev pub Tells : List ℕ → List ℕ → Result (Unit {0}) ScheduleFault → List ℕ → Type 0
Tells name text (Ok x) page = page ≡ codes "nothing wrong\n"
Tells name text (Err f) page = TellsRefused name text f page
