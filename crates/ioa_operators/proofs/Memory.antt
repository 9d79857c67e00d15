-- What calls return if no memory is left.
use Rattle.std.proofs.Common.{◌≡◌, Bool, true, false, Option, Some, None, Result, Ok, Err, if◌then◌else◌, ◌&&◌, inl, inr}
use Rattle.ioa_values.specs.Data.{Data, is_within}
use Rattle.ioa_values.specs.Outcome.{Answers}
use Rattle.ioa_operators.specs.RangeCheck.{AnswersOrLacks, LacksMemoryOnlyIf, checked_result}
use Rattle.ioa_operators.specs.declared.fault.TermFault.{TermFault}
use Rattle.ioa_operators.specs.declared.fault.TermFault.TheVariants.{Range, Memory}

-- the value is the one that is meant, and so is each other fault
pub answers : (takes : Bool) (r : Result Data TermFault) (o : Option Data) → AnswersOrLacks takes r o → Answers Memory (λ v. v) r (checked_result o)
answers takes (Ok v) o h = h
answers takes (Err e) o (inl h) = inr h
answers takes (Err e) o (inr h) = inl h.0

-- a result that is checked alone is never `Memory (3)`
range_check_by : {A : Type 0} (b : Bool) (d : Data) (e : TermFault) → (if b && true then Ok d else Err Range) ≡ Err e → e ≡ Memory → A
range_check_by true d e h p = absurd (cc)
range_check_by false d e h p = absurd (cc)

pub never_meant : {A : Type 0} (o : Option Data) (e : TermFault) → checked_result o ≡ Err e → e ≡ Memory → A
never_meant None e h p = absurd (cc)
never_meant (Some d) e h p = range_check_by (is_within d) d e h p

-- `Memory (3)` is never meant, so a call that returns it lacks memory
pub lacks_only_if : (takes : Bool) (r : Result Data TermFault) (o : Option Data) → AnswersOrLacks takes r o → LacksMemoryOnlyIf takes r o
lacks_only_if takes (Ok v) o h = tt
lacks_only_if takes (Err e) o (inl h) = λ p. never_meant o e h p
lacks_only_if takes (Err e) o (inr h) = λ p. (h.1, h.2)
