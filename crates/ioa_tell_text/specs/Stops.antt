-- A part at which a step or a block stops, as text, with its statement and the values of its names (form).
use Rattle.std.specs.Prelude.{ℕ, ℤ, Bool, true, false, if◌then◌else◌, List, [], ◌∷◌, ◌++◌, Option, Some, None, codes}
use Rattle.std.specs.Option.{is_some}
use Rattle.std.specs.Fmt.{signed_decimal}
use Rattle.ioa_values.specs.Data.{Data}
use Rattle.ioa_values.specs.Text.{text}
use Rattle.ioa_operators.specs.declared.shape.Shape.{Shape}
use Rattle.ioa_source.specs.Sides.{CheckedTerm}
use Rattle.ioa_terms.specs.PlainTerm.{PlainTarget, terms_of, variable, at_key, at_field}
use Rattle.ioa_terms.specs.declared.callee.Callee.{Callee}
use Rattle.ioa_reasons.specs.PlainReasons.{PlainFault, PlainPlace, condition, guard, effect}
use Rattle.ioa_reasons.specs.PlainReasons.{PlainStatementPlace, assigned, tested, repeated, fired, chosen, allowed}
use Rattle.ioa_tell_text.specs.Terms.{parts_text, term_text}
use Rattle.ioa_tell_text.specs.Tests.{values_text}

-- a target
abbrev pub target_text : PlainTarget ℕ Callee Shape → List ℕ
target_text (variable w x d) = w
target_text (at_key w x d t) = w ++ (codes "[" ++ (term_text t ++ codes "]"))
target_text (at_field w x d f) = w ++ (codes "." ++ f)

-- `x := choose v`: what a choice assigns, and the name of its value
abbrev pub choice_text : PlainTarget ℕ Callee Shape → List ℕ → List ℕ
choice_text p w = target_text p ++ (codes " := choose " ++ w)

-- the arguments of a `fire`, if there are any
abbrev pub arguments_text : List CheckedTerm → List ℕ
arguments_text [] = []
arguments_text (t ∷ ts) = codes "(" ++ (parts_text true (terms_of (t ∷ ts)) ++ codes ")")

-- a statement, without the bodies that it has; of a choice the term or the condition that stops
abbrev pub statement_place_text : PlainStatementPlace → List ℕ
statement_place_text (assigned target t) = target_text target ++ (codes " := " ++ term_text t)
statement_place_text (tested t) = codes "if " ++ term_text t
statement_place_text (repeated t) = codes "while " ++ term_text t
statement_place_text (fired f) = codes "fire " ++ (f.action ++ arguments_text f.arguments)
statement_place_text (chosen c) = choice_text c.target c.name ++ (codes " yield " ++ term_text c.yields)
statement_place_text (allowed c) = choice_text c.target c.name ++ (codes " where " ++ term_text c.condition)

-- `v is not of its sort`
abbrev pub sort_text : List (List ℕ) → Data → List ℕ
sort_text names v = text names v ++ codes " is not of its sort"

-- `: v is not of its sort`, if a part has a value
abbrev pub misfit_text : List (List ℕ) → Option Data → List ℕ
misfit_text names None = []
misfit_text names (Some v) = codes ": " ++ sort_text names v

-- ` stops at t (x = v)`, and why if t has a value
abbrev pub fault_text : List (List ℕ) → PlainFault → List ℕ
fault_text names f =
    codes " stops at " ++ (term_text f.part ++ (values_text names false f.values ++ misfit_text names f.value))

-- whether it is the condition of a choice that stops, and has a value
abbrev pub is_refused : PlainStatementPlace → Option Data → Bool
is_refused (assigned target t) v = false
is_refused (tested t) v = false
is_refused (repeated t) v = false
is_refused (fired f) v = false
is_refused (chosen c) v = false
is_refused (allowed c) v = is_some v

-- `its choice is not allowed: t is false (x = v)`
abbrev pub refused_text : List (List ℕ) → PlainFault → List ℕ
refused_text names f =
    codes "its choice is not allowed: " ++ (term_text f.part ++ (codes " is false" ++ values_text names false f.values))

-- `n := t stops at t (x = v): w is not of its sort`, or that a choice is not allowed
abbrev pub stuck_text : List (List ℕ) → PlainStatementPlace → PlainFault → List ℕ
stuck_text names place f =
    if is_refused place f.value then refused_text names f else statement_place_text place ++ fault_text names f

-- the same of what of a step stops: `its guard stops at t (x = v)`
abbrev pub stop_text : List (List ℕ) → PlainPlace → PlainFault → List ℕ
stop_text names condition f = codes "its where" ++ fault_text names f
stop_text names guard f = codes "its guard" ++ fault_text names f
stop_text names (effect place) f = stuck_text names place f

-- `argument k = v is not of its sort`
abbrev pub unfit_text : List (List ℕ) → List ℕ → Data → List ℕ
unfit_text names w v = codes "argument " ++ (w ++ (codes " = " ++ sort_text names v))

-- `  fault @i: why`, the line of a node whose block met a fault
abbrev pub stuck_line : ℤ → List ℕ → List ℕ
stuck_line n why = codes "  fault @" ++ (signed_decimal n ++ (codes ": " ++ (why ++ codes "\n")))
