-- What a run leaves whose schedule is reported (profile).
use Rattle.std.specs.Prelude.{◌≤◌, ℕ, List}
use Rattle.std.specs.List.{AllByRecursion}
use Rattle.ioa_tokens.specs.Lexeme.{greatest_number}
use Rattle.ioa_source.specs.Sides.{SourceText}
use Rattle.ioa_system.specs.Systems.{SystemParts}
use Rattle.ioa_text_reader.specs.Texts.{TextSpells}
use Rattle.ioa_check.specs.Systems.{IsSystemOf}
use Rattle.ioa_record.specs.declared.ending.Ending.{Ending}
use Rattle.ioa_record.specs.declared.record.Record.{Record}
use Rattle.ioa_record.specs.Recorded.{IsRunOf}
use Rattle.ioa_runtime_values.specs.RuntimeValues.{HasRuntimeValues}

-- a run of the system that a text describes, of so many steps at most
pub record IsRunOfText (text : List ℕ) (s : SystemParts) (limit : ℕ) (r : Record) : Type 0 where
  pub source : SourceText
  pub spelled : TextSpells source text
  pub system : IsSystemOf source s
  pub endings : List Ending
  pub run : IsRunOf s limit r endings

-- and its schedule can be read back
pub record IsReported (text : List ℕ) (s : SystemParts) (r : Record) : Type 0 where
  pub limit : ℕ
  pub run : IsRunOfText text s limit r
  -- the numbers of its lines are tokens
  pub low : limit ≤ greatest_number
  -- the values of its actions and of its choices are values of the runtime, which `Value` keeps of each
  pub values : AllByRecursion HasRuntimeValues r.schedule
