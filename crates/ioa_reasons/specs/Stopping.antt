-- Why a term or a statement stops at a part (profile).
use Rattle.std.specs.Prelude.{◌≡◌, ◌⊎◌, ℕ, true, false, [], Option, Some, None, Ok}
use Rattle.ioa_values.specs.Data.{Data, truth}
use Rattle.ioa_operators.specs.Shapes.{has_shape}
use Rattle.ioa_operators.specs.declared.shape.Shape.{Shape}
use Rattle.ioa_terms.specs.Bindings.{Bindings}
use Rattle.ioa_terms.specs.Meaning.{answer}
use Rattle.ioa_terms.specs.Performance.{with_chosen}
use Rattle.ioa_terms.specs.PlainTerm.{PlainChoice}
use Rattle.ioa_terms.specs.declared.callee.Callee.{Callee}
use Rattle.ioa_source.specs.Sides.{CheckedTerm}
use Rattle.ioa_reasons.specs.PlainReasons.{PlainFault, PlainStatementPlace, assigned, tested, repeated, fired, chosen}
use Rattle.ioa_reasons.specs.PlainReasons.{allowed}
use Rattle.ioa_reasons.specs.Faulty.{is_fault}
use Rattle.ioa_reasons.specs.Misfits.{Misfits}
use Rattle.ioa_reasons.specs.Tests.{false_part, values_read}

-- a part has no value there, and its names have these values
pub record HasNoValue (e : Bindings) (f : PlainFault) : Type 0 where
  pub fault : is_fault (answer f.part e) ≡ true
  pub none : f.value ≡ None
  pub values : f.values ≡ values_read f.part e []

-- what the condition of a choice reads where its statement stands: the value that the choice yields there, which is of
-- its sort, under its name, and behind that what the statement reads
pub record ReadsChosen (c : PlainChoice ℕ Callee Shape) (e b : Bindings) : Type 0 where
  pub value : Data
  pub yielded : answer c.yields e ≡ Ok value
  pub fits : has_shape c.shape value ≡ true
  pub behind : b ≡ with_chosen c.name value e

-- what a term in a statement reads, of what is there for the statement
abbrev pub IsReadAt : PlainStatementPlace → Bindings → Bindings → Type 0
IsReadAt (assigned p t) e b = b ≡ e
IsReadAt (tested t) e b = b ≡ e
IsReadAt (repeated t) e b = b ≡ e
IsReadAt (fired f) e b = b ≡ e
IsReadAt (chosen c) e b = b ≡ e
IsReadAt (allowed c) e b = ReadsChosen c e b

-- a choice is not allowed: this is the first part of its condition that is false
abbrev pub IsFalseIn : PlainStatementPlace → Bindings → CheckedTerm → Data → Type 0
IsFalseIn (assigned p t) b part v = ⊥
IsFalseIn (tested t) b part v = ⊥
IsFalseIn (repeated t) b part v = ⊥
IsFalseIn (fired f) b part v = ⊥
IsFalseIn (chosen c) b part v = ⊥
IsFalseIn (allowed c) b part v = (false_part c.condition b ≡ Some part) × (v ≡ truth false)

-- a statement stops at a part that reads this: the part has no value, or it has this value, which is not of the sort of
-- its place, or is false in the condition of a choice
abbrev pub StopsBy : PlainStatementPlace → Bindings → CheckedTerm → Option Data → Type 0
StopsBy place b part None = is_fault (answer part b) ≡ true
StopsBy place b part (Some v) = (answer part b ≡ Ok v) × (Misfits place part v ⊎ IsFalseIn place b part v)

-- a statement stops at a part that reads this, whose names have these values
pub record StopsBehind (place : PlainStatementPlace) (b : Bindings) (f : PlainFault) : Type 0 where
  pub stop : StopsBy place b f.part f.value
  pub values : f.values ≡ values_read f.part b []

-- a statement stops at a part there
pub record StopsAt (place : PlainStatementPlace) (e : Bindings) (f : PlainFault) : Type 0 where
  pub read : Bindings
  pub there : IsReadAt place e read
  pub stops : StopsBehind place read f
