-- Turns step by step, each result checked when it is made (form). They are equal to turns as defined, by a lemma.
use Rattle.std.specs.Prelude.{◌≡◌, ◌⊎◌, ℕ, zero, suc, Bool, true, false, [], None, Result, Ok, Err}
use Rattle.ioa_values.specs.Outcome.{and_then}
use Rattle.ioa_operators.specs.RangeCheck.{range_check}
use Rattle.ioa_operators.specs.declared.shape.Shape.{Shape}
use Rattle.ioa_operators.specs.declared.fault.TermFault.{TermFault}
use Rattle.ioa_terms.specs.declared.callee.Callee.{Callee}
use Rattle.ioa_terms.specs.Bindings.{Bindings}
use Rattle.ioa_terms.specs.PlainTerm.{terms_of, PlainStatement, PlainStatements, PlainArms}
use Rattle.ioa_terms.specs.PlainTerm.{assign, branch, loop, fire, choosing, no_statements, statement, no_arms, arm}
use Rattle.ioa_terms.specs.Stepwise.{stepwise_answers, stepwise_test, stepwise_assigned}
use Rattle.ioa_schedules.specs.Turns.{TurnResult, turn_result, fires, idle, done, joined_statements}

-- one of two, by the result of a test (form)
abbrev pub if_true : {A : Type 0} → Result Bool TermFault → Result A TermFault → Result A TermFault → Result A TermFault
if_true (Ok true) held other = held
if_true (Ok false) held other = other
if_true (Err f) held other = Err f

-- what an `if` goes on with (form)
abbrev pub stepwise_choice : PlainArms ℕ Callee Shape → PlainStatements ℕ Callee Shape → Bindings →
    Result (PlainStatements ℕ Callee Shape) TermFault
stepwise_choice no_arms rest e = Ok rest
stepwise_choice (arm t body more) rest e = if_true (stepwise_test t e) (Ok body) (stepwise_choice more rest e)

-- one statement taken, with others behind it (form)
abbrev pub stepwise_step : PlainStatement ℕ Callee Shape → PlainStatements ℕ Callee Shape → Bindings →
    Result (PlainStatements ℕ Callee Shape × Bindings) TermFault
stepwise_step (assign p t) rest e = and_then (stepwise_assigned p t e) (λ d. Ok (rest, d))
stepwise_step (branch arms others) rest e =
    and_then (stepwise_choice arms others e) (λ body. Ok (joined_statements body rest, e))
stepwise_step (loop t body) rest e =
    if_true (stepwise_test t e) (Ok (joined_statements body (statement (loop t body) rest), e)) (Ok (rest, e))
stepwise_step (fire f) rest e = range_check [] None
stepwise_step (choosing c) rest e = range_check [] None

-- the first statement taken (form); where nothing is left to do there is none
abbrev pub stepwise_first :
    PlainStatements ℕ Callee Shape → Bindings → Result (PlainStatements ℕ Callee Shape × Bindings) TermFault
stepwise_first no_statements e = range_check [] None
stepwise_first (statement s rest) e = stepwise_step s rest e

-- a turn (form)
abbrev pub stepwise_turn : PlainStatements ℕ Callee Shape → ℕ → Bindings → Result TurnResult TermFault
stepwise_turn no_statements n e = Ok (turn_result done no_statements e)
stepwise_turn (statement (fire f) rest) n e =
    and_then (stepwise_answers (terms_of f.arguments) e)
    (λ vs. Ok (turn_result (fires f.kind f.action vs) (statement (fire f) rest) e))
stepwise_turn (statement s rest) zero e = Ok (turn_result idle (statement s rest) e)
stepwise_turn (statement s rest) (suc n) e = and_then (stepwise_step s rest e) (λ p. stepwise_turn p.0 n p.1)

-- what is meant goes on from the value that a call returns (form): it is what `next` says of that value, or the same
-- fault; or memory was wanting
abbrev pub LeadsOn : {X A E : Type 0} → E → (X → Result A E) → Result X E → Result A E → Type 0
LeadsOn memory next (Ok x) meant = meant ≡ next x
LeadsOn memory next (Err e) meant = (e ≡ memory) ⊎ (meant ≡ Err e)
