-- Results that are there, of a declaration or of a whole text.
use Rattle.std.proofs.Common.{◌≡◌, ℕ, Bool, true, false, Result, Ok, Err, refl, ap, if◌then◌else◌}
use Rattle.ioa_values.specs.Outcome.{and_then}
use Rattle.ioa_refusals.specs.declared.refusal.Refusal.{Refusal}
use Rattle.ioa_automata.proofs.Results.{result_is}
use Rattle.ioa_sections.specs.declared.fault.CheckFault.{CheckFault}
use Rattle.ioa_sections.specs.Faults.{in_declaration}

-- a result that is there, of a whole text
abbrev pub checked_is : {A : Type 0} → A → Result A CheckFault
checked_is x = Ok x

-- of two results the second is there only if the first is
pub first_of : {A B E : Type 0} (r : Result A E) (f : A → Result B E) (y : B) → and_then r f ≡ Ok y → (x : A) × (r ≡ Ok x) × (f x ≡ Ok y)
first_of (Ok x) f y h = (x, refl, h)
first_of (Err e) f y h = absurd (cc)

-- a result in a declaration that is there
pub within_declaration : {A : Type 0} (index : ℕ) (r : Result A Refusal) (y : A) → in_declaration index r ≡ checked_is y → r ≡ result_is y
within_declaration index (Ok x) y h = let same : x ≡ y = cc in ap (λ z. result_is z) same
within_declaration index (Err e) y h = absurd (cc)

-- a test that has to be true, and one that has to be false
pub is_passed : {A : Type 0} (b : Bool) (r : Result A Refusal) (e : Refusal) (y : A) → (if b then r else Err e) ≡ result_is y → (b ≡ true) × (r ≡ result_is y)
is_passed true r e y h = (refl, h)
is_passed false r e y h = absurd (cc)

pub is_not_met : {A : Type 0} (b : Bool) (r : Result A Refusal) (e : Refusal) (y : A) → (if b then Err e else r) ≡ result_is y → (b ≡ false) × (r ≡ result_is y)
is_not_met true r e y h = absurd (cc)
is_not_met false r e y h = (refl, h)

-- what is there is the same as itself
pub result_same : {A : Type 0} (x y : A) → result_is x ≡ result_is y → x ≡ y
result_same x y h = cc
