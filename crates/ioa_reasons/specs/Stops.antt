-- Where statements meet a fault (profile).
use Rattle.std.specs.Prelude.{◌≡◌, ℕ, true, List, [], length}
use Rattle.ioa_values.specs.Data.{Data}
use Rattle.ioa_operators.specs.Shapes.{PlainShape}
use Rattle.ioa_operators.specs.declared.shape.Shape.{Shape}
use Rattle.ioa_terms.specs.Meaning.{answer}
use Rattle.ioa_terms.specs.PlainTerm.{PlainChoice, PlainTarget}
use Rattle.ioa_terms.specs.Resolved.{IsResolved, IsResolvedChoice}
use Rattle.ioa_terms.specs.View.{choice_of, term_of}
use Rattle.ioa_terms.specs.Views.{environment_of, names_in_view, own_names}
use Rattle.ioa_terms.specs.declared.callee.Callee.{Callee}
use Rattle.ioa_terms.specs.declared.environment.View.{View}
use Rattle.ioa_source.specs.Sides.{CheckedTerm}
use Rattle.ioa_reasons.specs.PlainReasons.{PlainStatementPlace, statement_place_of}
use Rattle.ioa_reasons.specs.Faulty.{is_fault}
use Rattle.ioa_reasons.specs.Misfits.{Asks, PutsAt, is_misfit}
use Rattle.ioa_reasons.specs.Stopping.{IsReadAt}
use Rattle.ioa_reasons.specs.declared.stops.Stop.{Stop}
use Rattle.ioa_reasons.specs.declared.stops.Stop.TheVariants.{Passed, Unknown, At, Misfit, Behind}

-- a term has no value in what is seen, if the values that statements may assign are these
pub record IsFaultyIn (v : View) (vs : List Data) (t : CheckedTerm) : Type 0 where
  pub fault : is_fault (answer t (environment_of v vs)) ≡ true
  pub resolved : IsResolved t (names_in_view v)

-- what a term in a statement reads is what is there for the statement
abbrev pub ReadsAll : View → List Data → PlainStatementPlace → Type 0
ReadsAll v vs place = IsReadAt place (environment_of v vs) (environment_of v vs)

-- the same where a statement reads all that is seen
pub record IsFaultyAt (v : View) (vs : List Data) (place : PlainStatementPlace) (t : CheckedTerm) : Type 0 where
  pub there : ReadsAll v vs place
  pub faulty : IsFaultyIn v vs t

-- a part has a value there, which has not the shape that is asked for where an assignment of a term puts it
pub record IsMisfitPut
    (v : View) (vs : List Data) (p : PlainTarget ℕ Callee Shape) (t part : CheckedTerm) : Type 0 where
  pub shape : PlainShape
  pub puts : PutsAt p t part shape
  pub misfit : is_misfit shape (answer part (environment_of v vs)) ≡ true
  pub resolved : IsResolved part (names_in_view v)

-- the same where a statement puts it
pub record IsMisfitIn (v : View) (vs : List Data) (place : PlainStatementPlace) (t : CheckedTerm) : Type 0 where
  pub there : ReadsAll v vs place
  pub shape : PlainShape
  pub asked : Asks place t shape
  pub misfit : is_misfit shape (answer t (environment_of v vs)) ≡ true
  pub resolved : IsResolved t (names_in_view v)

-- the names of a choice are those that are seen, where none stands in front yet
pub record IsChoiceIn (v : View) (vs : List Data) (c : PlainChoice ℕ Callee Shape) : Type 0 where
  pub front : v.front.now ≡ []
  pub resolved : IsResolvedChoice c (own_names v (length vs)) (names_in_view v)

-- the part at which statements stop, if it is told, has no value there, or one that is not of the sort of its place;
-- and a choice that stops behind its value is seen there
abbrev pub IsStopIn : View → List Data → Stop → Type 0
IsStopIn v vs Passed = Unit {0}
IsStopIn v vs Unknown = Unit {0}
IsStopIn v vs (At place t) = IsFaultyAt v vs (statement_place_of place) (term_of t.now)
IsStopIn v vs (Misfit place t) = IsMisfitIn v vs (statement_place_of place) (term_of t.now)
IsStopIn v vs (Behind c) = IsChoiceIn v vs (choice_of c.now)
