-- What is at a slot of an environment (view).
use Rattle.std.specs.Prelude.{ℕ, nat_lt, if◌then◌else◌, Option, Some, None}
use Rattle.ioa_values.specs.Data.{Data, constant}
use Rattle.ioa_terms.specs.declared.environment.Slot.{Slot}
use Rattle.ioa_terms.specs.declared.environment.Slot.TheVariants.{Variable, Constant, Inboxes}
use Rattle.ioa_terms.specs.Inboxes.{inboxes_of, inboxes_value}

-- its value
abbrev pub slot_value : Slot → Data
slot_value (Variable v) = v.now
slot_value (Constant k) = constant k
slot_value (Inboxes is) = inboxes_value (inboxes_of is.now)

-- an index, if it is below a number
abbrev pub index_within : ℕ → ℕ → Option ℕ
index_within index many = if nat_lt index many then Some index else None
