-- A paper: a text on its way to an output (form).
use Rattle.std.specs.Prelude.{◌≡◌, ℕ, Bool, true, false, List, ◌++◌, Option, Result, Ok, Err}
use Rattle.std.specs.Io.KnownBytes.{Appends}
use Rattle.ioa_streams.specs.Output.{AppendsBeginning}
use Rattle.ioa_streams.specs.declared.output.OutFailed.{OutFailed}

-- what a contract sees of a paper: what had gone out before it, the text that was put on it since, and the name under
-- which the proofs know the output
pub record PlainPaper : Type 0 where
  pub start : Option (List ℕ)
  pub text : List ℕ
  pub output : ℕ

-- the paper with more text
abbrev pub and_text : PlainPaper → List ℕ → PlainPaper
and_text paper text = record { start = paper.start; text = paper.text ++ text; output = paper.output }

-- all of the text went out; or writing failed, and a beginning of it went out
abbrev pub WentOut : Bool → Option (List ℕ) → Option (List ℕ) → List ℕ → Type 0
WentOut false start now text = Appends start now text
WentOut true start now text = AppendsBeginning start now text

-- what is kept of an output: it is known whether writing failed, and what was handed over went out
pub record IsOutlet (failed has_failed : Bool) (start now : Option (List ℕ)) (handed : List ℕ) : Type 0 where
  pub told : failed ≡ has_failed
  pub sent : WentOut has_failed start now handed

-- an output takes more bytes: if writing had failed before, it stays as it is
abbrev pub Sends : Bool → Bool → Option (List ℕ) → Option (List ℕ) → List ℕ → Type 0
Sends false failed old new bytes = WentOut failed old new bytes
Sends true failed old new bytes = (failed ≡ true) × (new ≡ old)

-- at the end all of the text went out; or writing failed, and a beginning of it went out
abbrev pub Ended : Option (List ℕ) → Option (List ℕ) → Bool → List ℕ → Result (Unit {0}) OutFailed → Type 0
Ended start now failed text (Ok x) = (failed ≡ false) × Appends start now text
Ended start now failed text (Err e) = (failed ≡ true) × AppendsBeginning start now text
