-- What the statements of an effect mean (profile): each sees the environment that the one before it left. A `while` and
-- a `fire` are statements of schedule blocks; in an effect they mean nothing.
use Rattle.std.specs.Prelude.{ℕ, Bool, true, false, if◌then◌else◌, List, [], ◌∷◌, ◌++◌, Option, Some, None, Result, Ok, Err}
use Rattle.std.specs.Option.{option_and_then, option_map}
use Rattle.ioa_values.specs.Data.{Data, as_truth}
use Rattle.ioa_operators.specs.Operators.{call_value}
use Rattle.ioa_operators.specs.Shapes.{PlainShape, has_shape, with_field}
use Rattle.ioa_values.specs.Outcome.{and_then}
use Rattle.ioa_terms.specs.declared.name.Name.{Name}
use Rattle.ioa_terms.specs.declared.name.Name.TheVariants.{Word}
use Rattle.ioa_terms.specs.Bindings.{Bindings, lookup, put}
use Rattle.ioa_terms.specs.PlainTerm.{PlainTerm, PlainTarget, variable, at_key, at_field}
use Rattle.ioa_terms.specs.PlainTerm.{PlainStatement, PlainStatements, PlainArms, assign, branch, loop, fire, choosing, PlainChoice}
use Rattle.ioa_terms.specs.PlainTerm.{no_statements, statement, no_arms, arm, statements_of}
use Rattle.ioa_terms.specs.Meaning.{value, numbers_met, if_any}
use Rattle.ioa_operators.specs.declared.operator.Function.TheVariants as function
use Rattle.ioa_operators.specs.declared.shape.Shape.{Shape}
use Rattle.ioa_terms.specs.declared.choices.EffectFault.{EffectFault}
use Rattle.ioa_terms.specs.Choices.{Source, given, yielded, Left, left, Chosen, chosen, Lack, no_value, no_choice}
use Rattle.ioa_terms.specs.Choices.{or_no_value, effect_check}

-- the variable that an assignment changes, and its shape
abbrev pub target_name : {N C D : Type 0} → PlainTarget N C D → Name
target_name (variable x at d) = Word x
target_name (at_key x at d k) = Word x
target_name (at_field x at d f) = Word x

abbrev pub target_shape : {N C : Type 0} → PlainTarget N C Shape → PlainShape
target_shape (variable x at d) = d
target_shape (at_key x at d k) = d
target_shape (at_field x at d f) = d

-- a map in which a key has a value
abbrev pub updated_map : Data → Data → Data → Option Data
updated_map k v m = call_value function.Update (m ∷ k ∷ v ∷ [])

-- what an assignment gives its variable: the term's value; the map with it at the key, which is evaluated first; or the
-- tuple with it as the field
abbrev pub assignment_value : {N C : Type 0} → PlainTarget N C Shape → PlainTerm N C Shape → Bindings → Option Data
assignment_value (variable x at d) t e = value t e
assignment_value (at_key x at d k) t e =
    option_and_then
    (λ i. option_and_then (λ v. option_and_then (updated_map i v) (lookup (Word x) e)) (value t e))
    (value k e)
assignment_value (at_field x at d f) t e =
    option_and_then (λ v. option_and_then (with_field d f v) (lookup (Word x) e)) (value t e)

-- the value, if it has the shape: a negative number is no natural
abbrev pub fitting_value : PlainShape → Data → Option Data
fitting_value s v = if has_shape s v then Some v else None

-- the truth value of a test
abbrev pub test_value : {N C : Type 0} → PlainTerm N C Shape → Bindings → Option Bool
test_value t e = option_and_then as_truth (value t e)

-- what comes after a test: one of two, or neither if the test has no truth value
abbrev pub by_test : {A : Type 0} → Option Bool → A → A → A → A
by_test None neither held other = neither
by_test (Some true) neither held other = held
by_test (Some false) neither held other = other

-- the environment after an assignment
abbrev pub assigned : {N C : Type 0} → PlainTarget N C Shape → PlainTerm N C Shape → Bindings → Option Bindings
assigned p t e =
    option_map (λ v. put (target_name p) v e)
    (option_and_then (fitting_value (target_shape p)) (assignment_value p t e))

abbrev pub next_given : PlainShape → List Data → Result Chosen Lack
next_given s [] = Err no_choice
next_given s (v ∷ vs) = if has_shape s v then Ok (chosen v (given vs)) else Err no_choice

-- a value for a choice (profile): the next of those that are given, if it is of the choice's shape; or what its own
-- term yields, which is no negative number for a natural
abbrev pub value_chosen : PlainShape → Option Data → Source → Result Chosen Lack
value_chosen s t (given vs) = next_given s vs
value_chosen s t (yielded vs) =
    and_then (or_no_value (option_and_then (fitting_value s) t)) (λ v. Ok (chosen v (yielded (vs ++ v ∷ []))))

-- a choice is allowed if its condition is true
abbrev pub permitted : Option Bool → Result (Unit {0}) Lack
permitted None = Err no_value
permitted (Some true) = Ok tt
permitted (Some false) = Err no_choice

-- the environment in which the condition of a choice is read: the value stands in front, under its own name
abbrev pub with_chosen : List ℕ → Data → Bindings → Bindings
with_chosen x v e = (Word x, v) ∷ e

-- what a choice takes, if its condition allows that
abbrev pub taken : {N C : Type 0} → PlainChoice N C Shape → Left → Result Chosen Lack
taken c l =
    and_then (value_chosen c.shape (value c.yields l.bindings) l.source)
    (λ v. and_then (permitted (test_value c.condition (with_chosen c.name v.value l.bindings))) (λ _. Ok v))

-- what is left if a variable gets a value, which must have its shape
abbrev pub put_chosen : Name → PlainShape → Bindings → Source → Option Data → Result Left Lack
put_chosen x s e c v = and_then (or_no_value (option_and_then (fitting_value s) v)) (λ w. Ok (left (put x w e) c))

-- what a choice leaves: the key of its target is evaluated first, and the value is put as by an assignment
abbrev pub after_choose : {N C : Type 0} →
    PlainTarget N C Shape → Result Chosen Lack → Bindings → Result Left Lack
after_choose (variable x at d) r e = and_then r (λ c. put_chosen (Word x) d e c.source (Some c.value))
after_choose (at_key x at d k) r e =
    and_then (or_no_value (value k e))
    (λ i. and_then r
    (λ c. put_chosen (Word x) d e c.source (option_and_then (updated_map i c.value) (lookup (Word x) e))))
after_choose (at_field x at d f) r e =
    and_then r (λ c. put_chosen (Word x) d e c.source (option_and_then (with_field d f c.value) (lookup (Word x) e)))

-- what is left after an assignment
abbrev pub after_assign : Option Bindings → Source → Result Left Lack
after_assign o c = and_then (or_no_value o) (λ e. Ok (left e c))

-- what comes after a test of an arm
abbrev pub after_test : Option Bool → Result Left Lack → Result Left Lack → Result Left Lack
after_test o held other = by_test o (Err no_value) held other

abbrev mutual
  -- what one statement leaves
  pub after_one : {N C : Type 0} → PlainStatement N C Shape → Left → Result Left Lack
  after_one (assign p t) l = after_assign (assigned p t l.bindings) l.source
  after_one (branch arms rest) l = after_choice arms (after_all rest l) l
  after_one (loop t body) l = Err no_value
  after_one (fire f) l = Err no_value
  after_one (choosing c) l = after_choose c.target (taken c l) l.bindings

  -- what the first arm leaves whose test is true, or the rest if none is
  pub after_choice : {N C : Type 0} → PlainArms N C Shape → Result Left Lack → Left → Result Left Lack
  after_choice no_arms rest l = rest
  after_choice (arm t body more) rest l =
      after_test (test_value t l.bindings) (after_all body l) (after_choice more rest l)

  -- what statements leave in order, each seeing what the one before left
  pub after_all : {N C : Type 0} → PlainStatements N C Shape → Left → Result Left Lack
  after_all no_statements l = Ok l
  after_all (statement s more) l = and_then (after_one s l) (after_all more)

-- what comes after something that may be lacking
abbrev pub numbers_met_if : {A : Type 0} → Result A Lack → (A → List Data) → List Data
numbers_met_if (Err f) more = []
numbers_met_if (Ok x) more = more x

-- the results that an assignment meets: the key's and then the term's
abbrev pub numbers_met_by_assignment : {N C : Type 0} → PlainTarget N C Shape → PlainTerm N C Shape → Bindings
    → List Data
numbers_met_by_assignment (variable x at d) t e = numbers_met t e
numbers_met_by_assignment (at_key x at d k) t e = numbers_met k e ++ if_any (value k e) (numbers_met t e)
numbers_met_by_assignment (at_field x at d f) t e = numbers_met t e

-- the results that a choice meets: those of the term that yields the value, if none is given, and those of the
-- condition
abbrev pub numbers_met_by_yield : {N C : Type 0} → PlainTerm N C Shape → Source → Bindings → List Data
numbers_met_by_yield t (given vs) e = []
numbers_met_by_yield t (yielded vs) e = numbers_met t e

abbrev pub numbers_met_by_taking : {N C : Type 0} → PlainChoice N C Shape → Left → List Data
numbers_met_by_taking c l =
    numbers_met_by_yield c.yields l.source l.bindings
    ++ numbers_met_if (value_chosen c.shape (value c.yields l.bindings) l.source)
    (λ v. numbers_met c.condition (with_chosen c.name v.value l.bindings))

-- the key's come first
abbrev pub numbers_met_by_choose : {N C : Type 0} → PlainTarget N C Shape → List Data → Bindings → List Data
numbers_met_by_choose (variable x at d) ds e = ds
numbers_met_by_choose (at_key x at d k) ds e =
    numbers_met k e ++ numbers_met_if (or_no_value (value k e)) (λ i. ds)
numbers_met_by_choose (at_field x at d f) ds e = ds

abbrev mutual
  -- the results that one statement meets
  pub numbers_met_by_one : {N C : Type 0} → PlainStatement N C Shape → Left → List Data
  numbers_met_by_one (assign p t) l = numbers_met_by_assignment p t l.bindings
  numbers_met_by_one (branch arms rest) l = numbers_met_by_choice arms (numbers_met_by_all rest l) l
  numbers_met_by_one (loop t body) l = []
  numbers_met_by_one (fire f) l = []
  numbers_met_by_one (choosing c) l = numbers_met_by_choose c.target (numbers_met_by_taking c l) l.bindings

  -- the results that arms meet: tests in order, and then those of what is performed
  pub numbers_met_by_choice : {N C : Type 0} → PlainArms N C Shape → List Data → Left → List Data
  numbers_met_by_choice no_arms rest l = rest
  numbers_met_by_choice (arm t body more) rest l =
      numbers_met t l.bindings
      ++ by_test (test_value t l.bindings) [] (numbers_met_by_all body l) (numbers_met_by_choice more rest l)

  -- the results that statements meet, one statement after another
  pub numbers_met_by_all : {N C : Type 0} → PlainStatements N C Shape → Left → List Data
  numbers_met_by_all no_statements l = []
  numbers_met_by_all (statement s more) l =
      numbers_met_by_one s l ++ numbers_met_if (after_one s l) (numbers_met_by_all more)

-- the same of statements in a list
abbrev pub after : {N C : Type 0} → List (PlainStatement N C Shape) → Left → Result Left Lack
after ss l = after_all (statements_of ss) l

abbrev pub numbers_met_by : {N C : Type 0} → List (PlainStatement N C Shape) → Left → List Data
numbers_met_by ss l = numbers_met_by_all (statements_of ss) l

-- what the performance of statements returns
abbrev pub answer_by : {N C : Type 0} → List (PlainStatement N C Shape) → Left → Result Left EffectFault
answer_by ss l = effect_check (numbers_met_by ss l) (after ss l)
