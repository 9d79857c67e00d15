-- A turn step by step is a turn.
use Rattle.std.proofs.Common.{◌≡◌, ℕ, zero, suc, Bool, true, false, List, [], ◌∷◌, ◌++◌, Option, Some, None, Result, Ok, Err, refl, sym, ap, ◌∙◌, if◌then◌else◌, append-nil}
use Rattle.std.specs.List.{list_all}
use Rattle.std.specs.Option.{option_and_then}
use Rattle.ioa_values.specs.Data.{Data, is_within, as_truth}
use Rattle.ioa_values.specs.Outcome.{and_then}
use Rattle.ioa_operators.specs.RangeCheck.{range_check}
use Rattle.ioa_operators.specs.declared.shape.Shape.{Shape}
use Rattle.ioa_operators.specs.declared.fault.TermFault.{TermFault}
use Rattle.ioa_operators.specs.declared.fault.TermFault.TheVariants.{Undefined, Range, Memory}
use Rattle.ioa_terms.specs.declared.choices.EffectFault.{EffectFault}
use Rattle.ioa_terms.specs.declared.choices.EffectFault.TheVariants as effect
use Rattle.ioa_terms.specs.Choices.{Left, left, given, effect_check}
use Rattle.ioa_terms.specs.declared.callee.Callee.{Callee}
use Rattle.ioa_terms.specs.Bindings.{Bindings}
use Rattle.ioa_terms.specs.PlainTerm.{PlainTerm, terms_of, PlainStatement, PlainStatements, PlainArms, PlainTarget, assign, branch, loop, fire, choosing, no_statements, statement, no_arms, arm}
use Rattle.ioa_terms.specs.Meaning.{value, values, numbers_met, all_numbers_met}
use Rattle.ioa_terms.specs.Performance.{test_value, by_test, assigned, after_assign, numbers_met_by_assignment, numbers_met_if}
use Rattle.ioa_terms.specs.Stepwise.{stepwise_test, stepwise_assigned, stepwise_assign}
use Rattle.ioa_terms.proofs.Stepwise.{range_check_append, range_check_none, range_check_some, made_of, stepwise_is, all_stepwise_is}
use Rattle.ioa_terms.proofs.Performed.{stepwise_by_is}
use Rattle.ioa_schedules.specs.Turns.{TurnResult, turn_result, fires, joined_statements, choice, after_step, turn, numbers_met_by_tests, numbers_met_by_step, numbers_met_then, numbers_met_by_turn, turn_answer}
use Rattle.ioa_schedules.specs.TurnsByStep.{if_true, stepwise_choice, stepwise_step, stepwise_turn}

-- a test is checked as a whole
truth_is : (ds : List Data) (v : Option Data) → and_then (range_check ds v) (λ d. range_check [] (as_truth d)) ≡ range_check ds (option_and_then as_truth v)
truth_is ds None = range_check_none ds (λ d. range_check [] (as_truth d))
truth_is ds (Some d) = range_check_some ds d (λ d. range_check [] (as_truth d))

test_is : (t : PlainTerm ℕ Callee Shape) (e : Bindings) → stepwise_test t e ≡ range_check (numbers_met t e) (test_value t e)
test_is t e = rw (stepwise_is t e) (truth_is (numbers_met t e) (value t e))

-- what an effect leaves, read as what a term gives
abbrev as_term : EffectFault → TermFault
as_term effect.Undefined = Undefined
as_term effect.Range = Range
as_term effect.Memory = Memory
as_term effect.NoChoice = Undefined

abbrev back : Result Left EffectFault → Result Bindings TermFault
back (Ok l) = Ok l.bindings
back (Err f) = Err (as_term f)

back_is : (r : Result Bindings TermFault) → back (and_then (stepwise_assign r (given [])) (λ l. Ok l)) ≡ r
back_is (Ok e) = refl
back_is (Err Undefined) = refl
back_is (Err Range) = refl
back_is (Err Memory) = refl

back_none : (b : Bool) → back (if b then Err effect.Undefined else Err effect.Range) ≡ (if b then Err Undefined else Err Range)
back_none true = refl
back_none false = refl

back_some : (b : Bool) (e : Bindings) → back (if b then Ok (left e (given [])) else Err effect.Range) ≡ (if b then Ok e else Err Range)
back_some true e = refl
back_some false e = refl

nothing_behind : (ds : List Data) (o : Option Bindings) → back (effect_check (ds ++ numbers_met_if (after_assign o (given [])) (λ l. [])) (and_then (after_assign o (given [])) (λ l. Ok l))) ≡ range_check ds o
nothing_behind ds None = rw (append-nil ds) (back_none (list_all is_within ds))
nothing_behind ds (Some e) = rw (append-nil ds) (back_some (list_all is_within ds) e)

-- an assignment alone is checked as a whole
assigned_is : (p : PlainTarget ℕ Callee Shape) (t : PlainTerm ℕ Callee Shape) (e : Bindings) → stepwise_assigned p t e ≡ range_check (numbers_met_by_assignment p t e) (assigned p t e)
assigned_is p t e =
    sym (back_is (stepwise_assigned p t e))
    ∙ ap back (stepwise_by_is (assign p t ∷ []) (left e (given [])))
    ∙ nothing_behind (numbers_met_by_assignment p t e) (assigned p t e)

answered_none : {A : Type 0} (b : Bool) (held other : Result A TermFault) → if_true (if b then Err Undefined else Err Range) held other ≡ (if b then Err Undefined else Err Range)
answered_none true held other = refl
answered_none false held other = refl

answered_some : {A : Type 0} (b t : Bool) (held other : Result A TermFault) → if_true (if b then Ok t else Err Range) held other ≡ (if b then if_true (Ok t) held other else Err Range)
answered_some true t held other = refl
answered_some false t held other = refl

-- what comes after a test is checked with it
choice_is : {A : Type 0} (ds held other : List Data) (o : Option Bool) (y n : Option A) → if_true (range_check ds o) (range_check held y) (range_check other n) ≡ range_check (ds ++ by_test o [] held other) (by_test o None y n)
choice_is ds held other None y n = rw (append-nil ds) (answered_none (list_all is_within ds) (range_check held y) (range_check other n))
choice_is ds held other (Some true) y n = answered_some (list_all is_within ds) true (range_check held y) (range_check other n) ∙ sym (range_check_append ds held y)
choice_is ds held other (Some false) y n = answered_some (list_all is_within ds) false (range_check held y) (range_check other n) ∙ sym (range_check_append ds other n)

-- a step that meets no number of its own
silent : {A : Type 0} (ds : List Data) (o : Option Bool) (y n : A) → if_true (range_check ds o) (Ok y) (Ok n) ≡ range_check ds (by_test o None (Some y) (Some n))
silent ds None y n = answered_none (list_all is_within ds) (Ok y) (Ok n)
silent ds (Some true) y n = answered_some (list_all is_within ds) true (Ok y) (Ok n)
silent ds (Some false) y n = answered_some (list_all is_within ds) false (Ok y) (Ok n)

arms_is : (arms : PlainArms ℕ Callee Shape) (rest : PlainStatements ℕ Callee Shape) (e : Bindings) → stepwise_choice arms rest e ≡ range_check (numbers_met_by_tests arms e) (choice arms rest e)
arms_is no_arms rest e = refl
arms_is (arm t body more) rest e = rw (test_is t e, arms_is more rest e) (choice_is (numbers_met t e) [] (numbers_met_by_tests more e) (test_value t e) (Some body) (choice more rest e))

step_is : (s : PlainStatement ℕ Callee Shape) (rest : PlainStatements ℕ Callee Shape) (e : Bindings) → stepwise_step s rest e ≡ range_check (numbers_met_by_step s e) (after_step s rest e)
step_is (assign p t) rest e = rw (assigned_is p t e) (made_of (numbers_met_by_assignment p t e) (assigned p t e) (λ d. (rest, d)))
step_is (branch arms others) rest e = rw (arms_is arms others e) (made_of (numbers_met_by_tests arms e) (choice arms others e) (λ body. (joined_statements body rest, e)))
step_is (loop t body) rest e = rw (test_is t e) (silent (numbers_met t e) (test_value t e) (joined_statements body (statement (loop t body) rest), e) (rest, e))
step_is (fire f) rest e = refl
step_is (choosing c) rest e = refl

-- what comes after a statement is checked with it
next_is : {A B : Type 0} (ds : List Data) (o : Option A) (more : A → List Data) (next : A → Option B) → and_then (range_check ds o) (λ x. range_check (more x) (next x)) ≡ range_check (ds ++ numbers_met_then o more) (option_and_then next o)
next_is ds None more next = rw (append-nil ds) (range_check_none ds (λ x. range_check (more x) (next x)))
next_is ds (Some x) more next = range_check_some ds x (λ x. range_check (more x) (next x)) ∙ sym (range_check_append ds (more x) (next x))

-- one statement, and the turn behind it
on_is : (s : PlainStatement ℕ Callee Shape) (rest : PlainStatements ℕ Callee Shape) (n : ℕ) (e : Bindings) → ((todo : PlainStatements ℕ Callee Shape) (d : Bindings) → stepwise_turn todo n d ≡ turn_answer todo n d) → and_then (stepwise_step s rest e) (λ p. stepwise_turn p.0 n p.1) ≡ range_check (numbers_met_by_step s e ++ numbers_met_then (after_step s rest e) (λ p. numbers_met_by_turn p.0 n p.1)) (option_and_then (λ p. turn p.0 n p.1) (after_step s rest e))
on_is s rest n e h =
    ap (λ (f : PlainStatements ℕ Callee Shape × Bindings → Result TurnResult TermFault). and_then (stepwise_step s rest e) f) (λ j p. h p.0 p.1 j)
    ∙ rw (step_is s rest e) (next_is (numbers_met_by_step s e) (after_step s rest e) (λ p. numbers_met_by_turn p.0 n p.1) (λ p. turn p.0 n p.1))

-- a turn
by_fuel : (n : ℕ) (todo : PlainStatements ℕ Callee Shape) (e : Bindings) → stepwise_turn todo n e ≡ turn_answer todo n e
by_fuel n no_statements e = refl
by_fuel n (statement (fire f) rest) e = rw (all_stepwise_is (terms_of f.arguments) e) (made_of (all_numbers_met (terms_of f.arguments) e) (values (terms_of f.arguments) e) (λ vs. turn_result (fires f.kind f.action vs) (statement (fire f) rest) e))
by_fuel zero (statement (assign p t) rest) e = refl
by_fuel zero (statement (branch arms others) rest) e = refl
by_fuel zero (statement (loop t body) rest) e = refl
by_fuel zero (statement (choosing c) rest) e = refl
by_fuel (suc n) (statement (assign p t) rest) e = on_is (assign p t) rest n e (by_fuel n)
by_fuel (suc n) (statement (branch arms others) rest) e = on_is (branch arms others) rest n e (by_fuel n)
by_fuel (suc n) (statement (loop t body) rest) e = on_is (loop t body) rest n e (by_fuel n)
by_fuel (suc n) (statement (choosing c) rest) e = on_is (choosing c) rest n e (by_fuel n)

pub stepwise_turn_is : (todo : PlainStatements ℕ Callee Shape) (n : ℕ) (e : Bindings) → stepwise_turn todo n e ≡ turn_answer todo n e
stepwise_turn_is todo n e = by_fuel n todo e
