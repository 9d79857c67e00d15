-- The part of a term that has no value (profile).
use Rattle.std.specs.Prelude.{ℕ, Bool, true, false, if◌then◌else◌, Option, Some, None, Result, Ok, Err}
use Rattle.std.specs.Option.{option_or}
use Rattle.ioa_values.specs.Data.{Data}
use Rattle.ioa_operators.specs.declared.fault.TermFault.{TermFault}
use Rattle.ioa_operators.specs.declared.shape.Shape.{Shape}
use Rattle.ioa_terms.specs.Bindings.{Bindings}
use Rattle.ioa_terms.specs.Meaning.{answer}
use Rattle.ioa_terms.specs.PlainTerm as plain
use Rattle.ioa_terms.specs.PlainTerm.{PlainTerms, name, one, two, call, display, field, no_terms, term}
use Rattle.ioa_terms.specs.declared.callee.Callee.{Callee}
use Rattle.ioa_source.specs.Sides.{CheckedTerm}

-- whether an answer is a fault
abbrev pub is_fault : Result Data TermFault → Bool
is_fault (Ok v) = false
is_fault (Err f) = true

-- a term, if it has no value, or the part of it that was found before
abbrev pub if_faulty : CheckedTerm → Bindings → Option CheckedTerm → Option CheckedTerm
if_faulty t e part = if is_fault (answer t e) then option_or part (Some t) else None

abbrev mutual
  -- the smallest part of a term that has no value while its own parts have, the first one from left to right; none if
  -- the term has a value
  pub faulty_part : CheckedTerm → Bindings → Option CheckedTerm
  faulty_part (plain.number n) e = if_faulty (plain.number n) e None
  faulty_part (plain.truth b) e = if_faulty (plain.truth b) e None
  faulty_part (name x at) e = if_faulty (name x at) e None
  faulty_part (one op a) e = if_faulty (one op a) e (faulty_part a e)
  faulty_part (two op a b) e = if_faulty (two op a b) e (option_or (faulty_part a e) (faulty_part b e))
  faulty_part (call w c ts) e = if_faulty (call w c ts) e (first_faulty ts e)
  faulty_part (display form d ts) e = if_faulty (display form d ts) e (first_faulty ts e)
  faulty_part (field a w d) e = if_faulty (field a w d) e (faulty_part a e)

  -- the same of terms, one after another
  pub first_faulty : PlainTerms ℕ Callee Shape → Bindings → Option CheckedTerm
  first_faulty no_terms e = None
  first_faulty (term t more) e = option_or (faulty_part t e) (first_faulty more e)

-- the same of what a term consists of
abbrev pub faulty_within : CheckedTerm → Bindings → Option CheckedTerm
faulty_within (plain.number n) e = None
faulty_within (plain.truth b) e = None
faulty_within (name x at) e = None
faulty_within (one op a) e = faulty_part a e
faulty_within (two op a b) e = option_or (faulty_part a e) (faulty_part b e)
faulty_within (call w c ts) e = first_faulty ts e
faulty_within (display form d ts) e = first_faulty ts e
faulty_within (field a w d) e = faulty_part a e
