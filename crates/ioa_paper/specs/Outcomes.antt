-- How a text was put out (profile).
use Rattle.std.specs.Prelude.{◌≡◌, ℕ, Bool, true, false, List, codes, Option, Result, Ok, Err}
use Rattle.std.specs.Io.KnownBytes.{Keeps, Appends}
use Rattle.ioa_streams.specs.Output.{AppendsBeginning}
use Rattle.ioa_paper.specs.declared.fault.ReportFault.{ReportFault}
use Rattle.ioa_paper.specs.declared.fault.ReportFault.TheVariants.{Memory, Write}

-- if the bytes of the output are known, they grow by the text, which goes out whole if the call passes; if writing
-- failed, a beginning of it went out, and the output says that it failed; if memory ran out, nothing was written
abbrev pub PutsOut : {T : Type 0} → List ℕ → Option (List ℕ) → Option (List ℕ) → Bool → Result T ReportFault → Type 0
PutsOut text old new failed (Ok x) = (failed ≡ false) × Appends old new text
PutsOut text old new failed (Err Write) = (failed ≡ true) × AppendsBeginning old new text
PutsOut text old new failed (Err Memory) = (failed ≡ false) × Keeps old new

-- a fault as text: its number and its name
abbrev pub report_fault_text : ReportFault → List ℕ
report_fault_text Memory = codes "3 Memory"
report_fault_text Write = codes "71 Write"
