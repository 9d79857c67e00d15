-- What is printed of a text (profile).
use Rattle.std.specs.Prelude.{◌≡◌, ⊤, ℕ, Bool, true, false, List, Option, Result, Ok, Err, codes}
use Rattle.std.specs.Io.KnownBytes.{Keeps, Appends}
use Rattle.ioa_source.specs.Sides.{SourceText}
use Rattle.ioa_text_reader.specs.FaultText.{front_fault_text}
use Rattle.ioa_text_reader.specs.Texts.{StandsInText, TextSpells}
use Rattle.ioa_text_reader.specs.declared.fault.FrontFault.{FrontFault}
use Rattle.ioa_text_reader.specs.declared.fault.FrontFault.TheVariants as front
use Rattle.ioa_streams.specs.Output.{AppendsBeginning}
use Rattle.ioa_pipeline.specs.declared.printing.PrintFault.{PrintFault}
use Rattle.ioa_pipeline.specs.declared.printing.PrintFault.TheVariants.{Front, Memory, Write}

-- two texts spell one source
pub record SpellAlike (text other : List ℕ) : Type 0 where
  pub source : SourceText
  pub spelled : TextSpells source text
  pub again : TextSpells source other

-- a fault of reading as one of printing: want of memory is one fault wherever it comes
abbrev pub print_fault_of_front : FrontFault → PrintFault
print_fault_of_front front.Empty = Front front.Empty
print_fault_of_front (front.BadCharacter offset) = Front (front.BadCharacter offset)
print_fault_of_front (front.Unexpected offset) = Front (front.Unexpected offset)
print_fault_of_front (front.NumberTooLarge offset) = Front (front.NumberTooLarge offset)
print_fault_of_front (front.TooDeep offset) = Front (front.TooDeep offset)
print_fault_of_front front.TooLong = Front front.TooLong
print_fault_of_front (front.LeftOut w offset) = Front (front.LeftOut w offset)
print_fault_of_front front.Memory = Memory

-- what a fault says of the text: a fault of reading is one of the text; want of memory and a failed write say nothing
abbrev pub IsFaultOfPrint : PrintFault → List ℕ → Type 0
IsFaultOfPrint (Front f) text = (f ≡ front.Memory → ⊥) × StandsInText f text
IsFaultOfPrint Memory text = ⊤
IsFaultOfPrint Write text = ⊤

-- nothing was written before this fault
abbrev pub IsEarlyPrint : PrintFault → Type 0
IsEarlyPrint (Front f) = ⊤
IsEarlyPrint Memory = ⊤
IsEarlyPrint Write = ⊥

-- if the bytes of the output are known, they grow by a text that spells the source of the one that was read; if writing
-- failed, by a beginning of one, and the output says that it failed; after every other fault nothing was written
abbrev pub PrintsAnew : List ℕ → (old new : Option (List ℕ)) → Bool → Result (Unit {0}) PrintFault → Type 0
PrintsAnew text old new failed (Ok x) =
    (failed ≡ false) × ((other : List ℕ) × SpellAlike text other × Appends old new other)
PrintsAnew text old new failed (Err Write) =
    (failed ≡ true) × ((other : List ℕ) × SpellAlike text other × AppendsBeginning old new other)
PrintsAnew text old new failed (Err (Front f)) = (failed ≡ false) × Keeps old new
PrintsAnew text old new failed (Err Memory) = (failed ≡ false) × Keeps old new

-- a fault as text: its number and its name, then its offset if it has one
abbrev pub print_fault_text : PrintFault → List ℕ
print_fault_text (Front f) = front_fault_text f
print_fault_text Memory = codes "3 Memory"
print_fault_text Write = codes "71 Write"
