-- What a verdict says of a schedule (profile), in words that know nothing of how it is found.
use Rattle.std.specs.Prelude.{◌≡◌, ◌≢◌, ℕ, ◌<◌, ◌≤◌, true, List, Some, Result, Ok, Err, length, take}
use Rattle.ioa_values.specs.Data.{Data, truth}
use Rattle.ioa_operators.specs.declared.fault.TermFault.{TermFault}
use Rattle.ioa_operators.specs.declared.fault.TermFault.TheVariants as fault
use Rattle.ioa_system.specs.Invariants.{InvariantParts}
use Rattle.ioa_transitions.specs.Entries.{PlainEntry}
use Rattle.ioa_compose.specs.declared.configuration.Conf.{Conf}
use Rattle.ioa_compose.specs.Executions.{replay}
use Rattle.ioa_verdicts.specs.declared.verdict.Verdict.{Verdict}
use Rattle.ioa_verdicts.specs.declared.verdict.Verdict.TheVariants.{Holds, Fails, Undefined, Range}
use Rattle.ioa_verdicts.specs.Verdicts.{answer_in}

-- an answer is true; it is another value; it is this fault
abbrev pub IsTrueAnswer : Result Data TermFault → Type 0
IsTrueAnswer r = r ≡ Ok (truth true)

abbrev pub IsOtherAnswer : Result Data TermFault → Type 0
IsOtherAnswer r = (d : Data) × (r ≡ Ok d) × (d ≢ truth true)

abbrev pub IsFaultAnswer : TermFault → Result Data TermFault → Type 0
IsFaultAnswer f r = r ≡ Err f

-- so many entries of a schedule lead to a state, and the invariant's answer in it is such a one
pub record AnswersAfter (P : Result Data TermFault → Type 0) (v : InvariantParts) (entries : List PlainEntry)
    (from : List Conf) (n : ℕ) : Type 0 where
  pub state : List Conf
  pub reached : replay (take n entries) from ≡ Some state
  pub answers : P (answer_in v state)

-- it is such a one after so many entries, and true after any smaller number
pub record IsFirst (P : Result Data TermFault → Type 0) (v : InvariantParts) (entries : List PlainEntry)
    (from : List Conf) (k : ℕ) : Type 0 where
  pub within : k ≤ length entries
  pub here : AnswersAfter P v entries from k
  pub before : (n : ℕ) → n < k → AnswersAfter IsTrueAnswer v entries from n

-- what a verdict says
abbrev pub IsVerdictOf : InvariantParts → List PlainEntry → List Conf → Verdict → Type 0
IsVerdictOf v entries from Holds = (n : ℕ) → n ≤ length entries → AnswersAfter IsTrueAnswer v entries from n
IsVerdictOf v entries from (Fails k) = IsFirst IsOtherAnswer v entries from k
IsVerdictOf v entries from (Undefined k) = IsFirst (IsFaultAnswer fault.Undefined) v entries from k
IsVerdictOf v entries from (Range k) = IsFirst (IsFaultAnswer fault.Range) v entries from k
