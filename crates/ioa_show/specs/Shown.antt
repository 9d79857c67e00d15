-- What goes out of a picture of a run (form).
use Rattle.std.specs.Prelude.{◌≡◌, ℕ, Bool, true, false, List, Option, Result, Ok, Err}
use Rattle.std.specs.Io.KnownBytes.{Keeps, Appends}
use Rattle.ioa_streams.specs.Output.{AppendsBeginning}
use Rattle.ioa_streams.specs.declared.output.OutFailed.{OutFailed}
use Rattle.ioa_paper.specs.Papers.{PlainPaper, and_text}
use Rattle.ioa_paper.specs.declared.fault.ReportFault.{ReportFault}
use Rattle.ioa_paper.specs.declared.fault.ReportFault.TheVariants.{Memory, Write}

-- this text goes out whole; if writing failed, a beginning of it went out, and the output says that it failed; if
-- memory ran out, nothing was written
abbrev pub PutsWhole : List ℕ → Option (List ℕ) → Option (List ℕ) → Bool → Result (Unit {0}) ReportFault
    → Type 0
PutsWhole text old new failed (Ok x) = (failed ≡ false) × Appends old new text
PutsWhole text old new failed (Err Write) = (failed ≡ true) × AppendsBeginning old new text
PutsWhole text old new failed (Err Memory) = (failed ≡ false) × Keeps old new

-- the same of a text whose parts are made one by one: if memory ran out, a beginning of it went out
abbrev pub PutsText : List ℕ → Option (List ℕ) → Option (List ℕ) → Bool → Result (Unit {0}) ReportFault
    → Type 0
PutsText text old new failed (Ok x) = (failed ≡ false) × Appends old new text
PutsText text old new failed (Err Write) = (failed ≡ true) × AppendsBeginning old new text
PutsText text old new failed (Err Memory) = AppendsBeginning old new text

-- on a paper there is a beginning of this text, behind what there was
abbrev pub HasBeginning : List ℕ → PlainPaper → PlainPaper → Type 0
HasBeginning text old new = (rest : List ℕ) × (and_text new rest ≡ and_text old text)

-- what it comes to: whether its parts were made, and then whether all of it went out
abbrev pub outcome_of : {E : Type 0} → Result (Unit {0}) E → Result (Unit {0}) OutFailed → Result (Unit {0}) ReportFault
outcome_of (Err e) sent = Err Memory
outcome_of (Ok x) (Err f) = Err Write
outcome_of (Ok x) (Ok y) = Ok tt

-- on a paper there is more, or what there was: it stands behind what had gone out before it, on the same output
abbrev pub Continues : PlainPaper → PlainPaper → Type 0
Continues old new = (new.start ≡ old.start) × (new.output ≡ old.output)
