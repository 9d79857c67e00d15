-- A value that has not the sort of its place (profile).
use Rattle.std.specs.Prelude.{◌≡◌, ◌⊎◌, ℕ, Bool, false, not, Some, Result, Ok, Err}
use Rattle.ioa_values.specs.Data.{Data}
use Rattle.ioa_operators.specs.Shapes.{PlainShape, truths, integers, naturals, constants, tuples, sequences}
use Rattle.ioa_operators.specs.Shapes.{sets, maps, has_shape}
use Rattle.ioa_operators.specs.declared.fault.TermFault.{TermFault}
use Rattle.ioa_operators.specs.declared.shape.Shape.{Shape}
use Rattle.ioa_terms.specs.PlainTerm.{PlainTarget, variable, at_key, at_field}
use Rattle.ioa_terms.specs.Sorted.{field_shape}
use Rattle.ioa_terms.specs.declared.callee.Callee.{Callee}
use Rattle.ioa_source.specs.Sides.{CheckedTerm}
use Rattle.ioa_reasons.specs.PlainReasons.{PlainStatementPlace, assigned, tested, repeated, fired, chosen, allowed}

-- `m[k] := t` puts a part where a shape is asked for, if m has the first shape: the key has the shape of the keys, and
-- the term that of the values
abbrev pub PutsInMap : PlainShape → CheckedTerm → CheckedTerm → CheckedTerm → PlainShape → Type 0
PutsInMap truths k t part s = ⊥
PutsInMap integers k t part s = ⊥
PutsInMap naturals k t part s = ⊥
PutsInMap (constants type from many) k t part s = ⊥
PutsInMap (tuples type names fields) k t part s = ⊥
PutsInMap (sequences items) k t part s = ⊥
PutsInMap (sets members) k t part s = ⊥
PutsInMap (maps keys values) k t part s = ((part ≡ k) × (s ≡ keys)) ⊎ ((part ≡ t) × (s ≡ values))

-- an assignment of a term to a target puts a part where a shape is asked for: the term where the variable has the
-- shape, a key and the term where a map has them, or the term where a field has it
abbrev pub PutsAt : PlainTarget ℕ Callee Shape → CheckedTerm → CheckedTerm → PlainShape → Type 0
PutsAt (variable x at d) t part s = (part ≡ t) × (s ≡ d)
PutsAt (at_key x at d k) t part s = PutsInMap d k t part s
PutsAt (at_field x at d f) t part s = (part ≡ t) × (field_shape f d ≡ Some s)

-- a statement puts a part where a shape is asked for: an assignment does, and a choice, whose value has a sort besides
abbrev pub Asks : PlainStatementPlace → CheckedTerm → PlainShape → Type 0
Asks (assigned p t) part s = PutsAt p t part s
Asks (tested test) part s = ⊥
Asks (repeated test) part s = ⊥
Asks (fired f) part s = ⊥
Asks (chosen c) part s = ((part ≡ c.yields) × (s ≡ c.shape)) ⊎ PutsAt c.target c.yields part s
Asks (allowed c) part s = ⊥

-- a value of a part has not the shape that is asked for where the statement puts it
abbrev pub Misfits : PlainStatementPlace → CheckedTerm → Data → Type 0
Misfits place part v = (s : PlainShape) × Asks place part s × (has_shape s v ≡ false)

-- whether an answer is a value that has not this shape
abbrev pub is_misfit : PlainShape → Result Data TermFault → Bool
is_misfit s (Ok v) = not (has_shape s v)
is_misfit s (Err f) = false
