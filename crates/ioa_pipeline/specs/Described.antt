-- The system that a text describes, and why a text describes none (profile).
use Rattle.std.specs.Prelude.{◌≡◌, ◌⊎◌, ◌≤◌, ⊤, ℕ, true, List, length, codes, Result, Err, MatchResult}
use Rattle.ioa_text_reader.specs.declared.fault.FrontFault.{FrontFault}
use Rattle.ioa_text_reader.specs.declared.fault.FrontFault.TheVariants as front
use Rattle.ioa_text_reader.specs.FaultText.{front_fault_text}
use Rattle.ioa_text_reader.specs.Texts.{TextSpells, StandsInText, is_exact, length_limit}
use Rattle.ioa_sections.specs.declared.fault.CheckFault.{CheckFault}
use Rattle.ioa_sections.specs.declared.fault.CheckFault.TheVariants as check
use Rattle.ioa_sections.specs.Faults.{check_fault_text}
use Rattle.ioa_check.specs.Checking.{system_of}
use Rattle.ioa_check.specs.Systems.{IsSystemOf, SaysNoSystem}
use Rattle.ioa_system.specs.Declarations.{IsWellDeclared}
use Rattle.ioa_system.specs.Systems.{SystemParts}
use Rattle.ioa_source.specs.Sides.{SourceText}
use Rattle.ioa_pipeline.specs.declared.described.SystemFault.{SystemFault}
use Rattle.ioa_pipeline.specs.declared.described.SystemFault.TheVariants.{Front, Check, Memory}

-- a system that a text describes: the tokens of the text spell a source, and the system is that source's; so it
-- declares each thing once
pub record IsDescribed (text : List ℕ) (s : SystemParts) : Type 0 where
  pub source : SourceText
  pub spelled : TextSpells source text
  pub system : IsSystemOf source s
  pub declared : IsWellDeclared s

-- a fault of reading as one of a text's system: want of memory is one fault wherever it comes
abbrev pub system_fault_of_front : FrontFault → SystemFault
system_fault_of_front front.Empty = Front front.Empty
system_fault_of_front (front.BadCharacter offset) = Front (front.BadCharacter offset)
system_fault_of_front (front.Unexpected offset) = Front (front.Unexpected offset)
system_fault_of_front (front.NumberTooLarge offset) = Front (front.NumberTooLarge offset)
system_fault_of_front (front.TooDeep offset) = Front (front.TooDeep offset)
system_fault_of_front front.TooLong = Front front.TooLong
system_fault_of_front (front.LeftOut w offset) = Front (front.LeftOut w offset)
system_fault_of_front front.Memory = Memory

-- a fault of the check as one of a text's system
abbrev pub system_fault_of_check : CheckFault → SystemFault
system_fault_of_check (check.Refused refusal index) = Check (check.Refused refusal index)
system_fault_of_check check.Memory = Memory

-- what a refusal of the check says: the text spells a source that has this refusal and no other, with its number and
-- the index of its declaration, and there is no system of that source
pub record IsRefusalOfCheck (f : CheckFault) (text : List ℕ) : Type 0 where
  pub source : SourceText
  pub spelled : TextSpells source text
  pub exact : system_of source ≡ Err f
  pub none : SaysNoSystem f source

-- what a fault says of the text: a fault of reading is one of the text, and a fault of the check is the refusal of a
-- source that the text spells; want of memory says nothing
abbrev pub IsFaultOfText : SystemFault → List ℕ → Type 0
IsFaultOfText (Front f) text = (f ≡ front.Memory → ⊥) × StandsInText f text
IsFaultOfText (Check f) text = (f ≡ check.Memory → ⊥) × IsRefusalOfCheck f text
IsFaultOfText Memory text = ⊤

-- no fault of the text that is always found is passed over. Such a fault of reading is the outcome, or want of memory
-- for a text within the length limit. If the text is within that limit and spells a source that the check refuses, the
-- outcome is that refusal, with its number and its index, or want of memory. So a text that was accepted has none of
-- these faults
pub record IsExactBy {T F : Type 0} (of_front : FrontFault → F) (of_check : CheckFault → F) (memory : F)
    (result : Result T F) (text : List ℕ) : Type 0 where
  pub reading : (e : FrontFault) → is_exact e ≡ true → StandsInText e text →
      MatchResult result (λ _. ⊥) (λ f. (f ≡ of_front e) ⊎ ((f ≡ memory) × (length text ≤ length_limit)))
  pub checking : (p : SourceText) (e : CheckFault) → length text ≤ length_limit → TextSpells p text →
      system_of p ≡ Err e → MatchResult result (λ _. ⊥) (λ f. (f ≡ of_check e) ⊎ (f ≡ memory))

-- a fault as text: its number and its name, then its offset or its index if it has one
abbrev pub system_fault_text : SystemFault → List ℕ
system_fault_text (Front f) = front_fault_text f
system_fault_text (Check f) = check_fault_text f
system_fault_text Memory = codes "3 Memory"
