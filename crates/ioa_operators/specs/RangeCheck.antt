-- A value checked together with the results on the way to it (profile).
use Rattle.std.specs.Prelude.{◌≡◌, ◌⊎◌, Bool, true, List, [], ◌∷◌, Option, Some, None, Result, Ok, Err, if◌then◌else◌}
use Rattle.std.specs.Option.{ok_or}
use Rattle.std.specs.Result.{IfErr, IsOk}
use Rattle.std.specs.List.{list_all}
use Rattle.ioa_values.specs.Data.{Data, is_within}
use Rattle.ioa_operators.specs.declared.fault.TermFault.{TermFault}
use Rattle.ioa_operators.specs.declared.fault.TermFault.TheVariants.{Undefined, Range, Memory}

-- the value, if there is one, as a list
abbrev pub result_of : Option Data → List Data
result_of None = []
result_of (Some v) = v ∷ []

-- `Range (2)` if a number met lies outside 64 bits, else `Undefined (1)` if there is no value, else the value
abbrev pub range_check : {A : Type 0} → List Data → Option A → Result A TermFault
range_check ds v = if list_all is_within ds then ok_or v Undefined else Err Range

-- a result, checked alone
abbrev pub checked_result : Option Data → Result Data TermFault
checked_result v = range_check (result_of v) v

-- the call computes the value that is meant, checked; if it takes memory, and the value passes the check, it may return
-- `Memory (3)` instead
abbrev pub AnswersOrLacks : Bool → Result Data TermFault → Option Data → Type 0
AnswersOrLacks takes (Ok v) meant = checked_result meant ≡ Ok v
AnswersOrLacks takes (Err e) meant =
    (checked_result meant ≡ Err e) ⊎ ((e ≡ Memory) × (takes ≡ true) × IsOk (checked_result meant))

-- only a call that takes memory returns `Memory (3)`, and only instead of a value that passes the check
abbrev pub LacksMemoryOnlyIf : Bool → Result Data TermFault → Option Data → Type 0
LacksMemoryOnlyIf takes answer meant = IfErr answer (λ e. e ≡ Memory → (takes ≡ true) × IsOk (checked_result meant))
