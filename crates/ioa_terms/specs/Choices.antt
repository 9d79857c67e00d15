-- Where an effect takes the values that it chooses, and why statements leave nothing (profile).
use Rattle.std.specs.Prelude.{Bool, true, false, if◌then◌else◌, List, [], ◌∷◌, ◌++◌, Option, Some, None, Result, Ok, Err}
use Rattle.std.specs.List.{list_all}
use Rattle.ioa_values.specs.Data.{Data, is_within}
use Rattle.ioa_terms.specs.declared.choices.Choices.{Choices}
use Rattle.ioa_terms.specs.declared.choices.Choices.TheVariants as choices
use Rattle.ioa_terms.specs.declared.choices.EffectFault.{EffectFault}
use Rattle.ioa_terms.specs.declared.choices.EffectFault.TheVariants as effect
use Rattle.ioa_terms.specs.Bindings.{Bindings}
use Rattle.ioa_operators.specs.declared.fault.TermFault.{TermFault}
use Rattle.ioa_operators.specs.declared.fault.TermFault.TheVariants as term

-- the values that are given, of those that are left to take; or those that the choices' own terms yielded so far
pub data Source : Type 0 where
  given : List Data → Source
  yielded : List Data → Source

-- the plain data of what the code keeps (view)
abbrev pub source_of : Choices → Source
source_of (choices.Given vs) = given vs.now
source_of (choices.Yielded vs) = yielded vs.items

-- the values that were yielded
abbrev pub made_values : Source → List Data
made_values (given vs) = []
made_values (yielded vs) = vs

-- whether all values that were given were taken
abbrev pub is_used_up : Source → Bool
is_used_up (given []) = true
is_used_up (given (v ∷ vs)) = false
is_used_up (yielded vs) = false

-- what statements leave: the environment, and where further choices take their values
pub record Left : Type 0 where
  pub bindings : Bindings
  pub source : Source

abbrev pub left : Bindings → Source → Left
left e c = record { bindings = e; source = c }

-- a chosen value, and where further choices take theirs
pub record Chosen : Type 0 where
  pub value : Data
  pub source : Source

abbrev pub chosen : Data → Source → Chosen
chosen v c = record { value = v; source = c }

-- why statements leave nothing: a part has no value, or a choice is not allowed
pub data Lack : Type 0 where
  no_value : Lack
  no_choice : Lack

abbrev pub or_no_value : {A : Type 0} → Option A → Result A Lack
or_no_value None = Err no_value
or_no_value (Some x) = Ok x

-- the same as a fault
abbrev pub lack_fault : Lack → EffectFault
lack_fault no_value = effect.Undefined
lack_fault no_choice = effect.NoChoice

abbrev pub lacked : {A : Type 0} → Result A Lack → Result A EffectFault
lacked (Ok x) = Ok x
lacked (Err l) = Err (lack_fault l)

-- a term's fault, as an effect's
abbrev pub effect_fault : TermFault → EffectFault
effect_fault term.Undefined = effect.Undefined
effect_fault term.Range = effect.Range
effect_fault term.Memory = effect.Memory

abbrev pub in_effect : {A : Type 0} → Result A TermFault → Result A EffectFault
in_effect (Ok x) = Ok x
in_effect (Err f) = Err (effect_fault f)

-- `Range (2)` if a number met lies outside 64 bits, else what there is
abbrev pub effect_check : {A : Type 0} → List Data → Result A Lack → Result A EffectFault
effect_check ds r = if list_all is_within ds then lacked r else Err effect.Range
