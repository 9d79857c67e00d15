-- The turns of a schedule block (profile). A block has statements to do and an environment: the values of its own
-- variables, and behind them those that it may only read. A turn takes statements, at most a given number of them,
-- until the block stands at a `fire`, or until nothing is left to do.
use Rattle.std.specs.Prelude.{◌≡◌, ℕ, zero, suc, Bool, true, false, List, [], ◌++◌, Option, Some, None, Result}
use Rattle.std.specs.Option.{option_and_then, option_map}
use Rattle.ioa_values.specs.Data.{Data}
use Rattle.ioa_operators.specs.RangeCheck.{range_check}
use Rattle.ioa_operators.specs.declared.shape.Shape.{Shape}
use Rattle.ioa_operators.specs.declared.fault.TermFault.{TermFault}
use Rattle.ioa_terms.specs.declared.callee.Callee.{Callee}
use Rattle.ioa_terms.specs.declared.tree.Kind.{Kind}
use Rattle.ioa_terms.specs.Bindings.{Bindings}
use Rattle.ioa_terms.specs.PlainTerm.{terms_of, PlainFiring, PlainStatement, PlainStatements, PlainArms}
use Rattle.ioa_terms.specs.PlainTerm.{assign, branch, loop, fire, choosing, no_statements, statement, no_arms, arm}
use Rattle.ioa_terms.specs.Meaning.{values, numbers_met, all_numbers_met}
use Rattle.ioa_terms.specs.Performance.{test_value, by_test, assigned, numbers_met_by_assignment}
use Rattle.ioa_schedules.specs.declared.turn.TheConstants.{TURN_LIMIT}

-- how a turn ends (profile): the block stands at a `fire`, whose action has this name and these arguments, and this
-- kind if one is written; it has taken as many statements as a turn may; or nothing is left to do
pub data TurnEnd : Type 0 where
  fires : Option Kind → List ℕ → List Data → TurnEnd
  idle : TurnEnd
  done : TurnEnd

-- what a turn comes to (profile): its end, the statements still to do, and the environment that it reaches
pub record TurnResult : Type 0 where
  pub ending : TurnEnd
  pub todo : PlainStatements ℕ Callee Shape
  pub bindings : Bindings

-- a turn that ends so, with these statements still to do, in this environment (profile)
abbrev pub turn_result : TurnEnd → PlainStatements ℕ Callee Shape → Bindings → TurnResult
turn_result ending todo e = record { ending = ending; todo = todo; bindings = e }

-- statements, and others behind them (profile)
abbrev pub joined_statements :
    PlainStatements ℕ Callee Shape → PlainStatements ℕ Callee Shape → PlainStatements ℕ Callee Shape
joined_statements no_statements more = more
joined_statements (statement s ss) more = statement s (joined_statements ss more)

-- whether a statement is a `fire` (profile)
abbrev pub is_fire : PlainStatement ℕ Callee Shape → Bool
is_fire (assign p t) = false
is_fire (branch arms rest) = false
is_fire (loop t body) = false
is_fire (fire f) = true
is_fire (choosing c) = false

-- whether a turn ends here by itself (profile): nothing is left to do, or a `fire` comes first
abbrev pub ends_turn : PlainStatements ℕ Callee Shape → Bool
ends_turn no_statements = true
ends_turn (statement s rest) = is_fire s

-- a `fire` comes first (profile)
abbrev pub IsAtFire : PlainStatements ℕ Callee Shape → Type 0
IsAtFire no_statements = ⊥
IsAtFire (statement s rest) = is_fire s ≡ true

-- this `fire` comes first (profile)
abbrev pub IsAtFiring : PlainFiring ℕ Callee Shape → PlainStatements ℕ Callee Shape → Type 0
IsAtFiring f no_statements = ⊥
IsAtFiring f (statement s rest) = s ≡ fire f

-- this statement comes first (profile)
abbrev pub IsFirst : PlainStatement ℕ Callee Shape → PlainStatements ℕ Callee Shape → Type 0
IsFirst s no_statements = ⊥
IsFirst s (statement t rest) = t ≡ s

-- what follows the first statement (profile)
abbrev pub following_statements : PlainStatements ℕ Callee Shape → PlainStatements ℕ Callee Shape
following_statements no_statements = no_statements
following_statements (statement s rest) = rest

-- what an `if` goes on with (profile): the first arm whose test is true, or the rest if none is
abbrev pub choice :
    PlainArms ℕ Callee Shape → PlainStatements ℕ Callee Shape → Bindings → Option (PlainStatements ℕ Callee Shape)
choice no_arms rest e = Some rest
choice (arm t body more) rest e = by_test (test_value t e) None (Some body) (choice more rest e)

-- one statement taken, with others behind it (profile): what is to do then, and the environment. An assignment is
-- performed; an `if` becomes what it goes on with; a `while` whose test is true becomes its body and then itself, and
-- one whose test is false is over. A `fire` is not taken, and no block has a choice.
abbrev pub after_step : PlainStatement ℕ Callee Shape → PlainStatements ℕ Callee Shape → Bindings →
    Option (PlainStatements ℕ Callee Shape × Bindings)
after_step (assign p t) rest e = option_map (λ d. (rest, d)) (assigned p t e)
after_step (branch arms others) rest e = option_map (λ body. (joined_statements body rest, e)) (choice arms others e)
after_step (loop t body) rest e =
    by_test (test_value t e) None (Some (joined_statements body (statement (loop t body) rest), e)) (Some (rest, e))
after_step (fire f) rest e = None
after_step (choosing c) rest e = None

-- a turn of at most `n` statements (profile). Where the block stands at a `fire` its arguments are evaluated, and the
-- `fire` stays the first statement; a `fire` and the end count for no statement.
abbrev pub turn : PlainStatements ℕ Callee Shape → ℕ → Bindings → Option TurnResult
turn no_statements n e = Some (turn_result done no_statements e)
turn (statement (fire f) rest) n e =
    option_map (λ vs. turn_result (fires f.kind f.action vs) (statement (fire f) rest) e)
    (values (terms_of f.arguments) e)
turn (statement s rest) zero e = Some (turn_result idle (statement s rest) e)
turn (statement s rest) (suc n) e = option_and_then (λ p. turn p.0 n p.1) (after_step s rest e)

-- the results that the tests of an `if` meet, up to the first that is true (profile)
abbrev pub numbers_met_by_tests : PlainArms ℕ Callee Shape → Bindings → List Data
numbers_met_by_tests no_arms e = []
numbers_met_by_tests (arm t body more) e =
    numbers_met t e ++ by_test (test_value t e) [] [] (numbers_met_by_tests more e)

-- the results that one statement meets when it is taken (profile)
abbrev pub numbers_met_by_step : PlainStatement ℕ Callee Shape → Bindings → List Data
numbers_met_by_step (assign p t) e = numbers_met_by_assignment p t e
numbers_met_by_step (branch arms others) e = numbers_met_by_tests arms e
numbers_met_by_step (loop t body) e = numbers_met t e
numbers_met_by_step (fire f) e = []
numbers_met_by_step (choosing c) e = []

-- the results that are met after a statement (profile): none if it leaves nothing
abbrev pub numbers_met_then : {A : Type 0} → Option A → (A → List Data) → List Data
numbers_met_then None more = []
numbers_met_then (Some x) more = more x

-- the results that a turn meets (profile): those of the statements that it takes, and of the arguments of a `fire`
abbrev pub numbers_met_by_turn : PlainStatements ℕ Callee Shape → ℕ → Bindings → List Data
numbers_met_by_turn no_statements n e = []
numbers_met_by_turn (statement (fire f) rest) n e = all_numbers_met (terms_of f.arguments) e
numbers_met_by_turn (statement s rest) zero e = []
numbers_met_by_turn (statement s rest) (suc n) e =
    numbers_met_by_step s e ++ numbers_met_then (after_step s rest e) (λ p. numbers_met_by_turn p.0 n p.1)

-- what a turn returns (profile)
abbrev pub turn_answer : PlainStatements ℕ Callee Shape → ℕ → Bindings → Result TurnResult TermFault
turn_answer todo n e = range_check (numbers_met_by_turn todo n e) (turn todo n e)

-- how many statements a turn takes at most (profile)
abbrev pub turn_limit : ℕ
turn_limit = TURN_LIMIT
