-- The parts that operators take, as what they have to be (form).
use Rattle.std.specs.Prelude.{◌≡◌, List, [], ◌∷◌, Option, Some, None, Result, Ok, Err}
use Rattle.ioa_values.specs.Data.{Data}
use Rattle.ioa_operators.specs.declared.functions.CallParts.{CallParts}
use Rattle.ioa_operators.specs.declared.functions.CallParts.TheVariants.{One, Two, Three}
use Rattle.ioa_operators.specs.declared.fault.TermFault.{TermFault}
use Rattle.ioa_operators.specs.declared.fault.TermFault.TheVariants.{Undefined}

-- the call returns what is `found`, seen through `view`, and `Undefined` if nothing is
abbrev pub Takes : {X A : Type 0} → (X → A) → Result X TermFault → Option A → Type 0
Takes view (Ok x) found = found ≡ Some (view x)
Takes view (Err e) found = (e ≡ Undefined) × (found ≡ None)

-- the parts of a call as a list
abbrev pub list_of_parts : CallParts → List Data
list_of_parts (One x) = x ∷ []
list_of_parts (Two x y) = x ∷ y ∷ []
list_of_parts (Three x y z) = x ∷ y ∷ z ∷ []
