-- The first statement that is to do.
use Rattle.std.proofs.Common.{◌≡◌, ℕ, zero, suc, true, false, List, [], ◌∷◌, Ok, Err, refl, sym, ap, subst, ◌∙◌, ◌<◌, ◌-◌, arith}
use Rattle.ioa_operators.specs.declared.shape.Shape.{Shape}
use Rattle.ioa_operators.specs.declared.fault.TermFault.{TermFault}
use Rattle.ioa_values.specs.Outcome.{and_then}
use Rattle.ioa_terms.specs.declared.callee.Callee.{Callee}
use Rattle.ioa_terms.specs.declared.name.Name.{Name}
use Rattle.ioa_terms.specs.Bindings.{Bindings}
use Rattle.std.specs.List.{AllByRecursion}
use Rattle.ioa_terms.specs.PlainTerm.{PlainTerm, PlainFiring, terms_of, PlainStatement, PlainStatements, assign, branch, loop, fire, choosing, no_statements, statement}
use Rattle.ioa_terms.specs.Resolved.{AreAllResolved, AreTermsResolved, IsResolved, IsResolvedStatement}
use Rattle.ioa_terms.specs.Stepwise.{stepwise_answers}
use Rattle.ioa_schedules.specs.Turns.{turn_result, fires, idle, IsAtFire, IsAtFiring, IsFirst, following_statements, is_fire, ends_turn}
use Rattle.ioa_schedules.specs.TurnsByStep.{stepwise_first, stepwise_step, stepwise_turn}

-- what is to do is the first statement and what follows
pub first_is : (s : PlainStatement ℕ Callee Shape) (todo : PlainStatements ℕ Callee Shape) → IsFirst s todo → todo ≡ statement s (following_statements todo)
first_is s no_statements h = absurd h
first_is s (statement t rest) h = ap (λ (u : PlainStatement ℕ Callee Shape). statement u rest) h

-- taking the first is taking that statement
pub first_step : (s : PlainStatement ℕ Callee Shape) (todo : PlainStatements ℕ Callee Shape) (e : Bindings) → IsFirst s todo → stepwise_step s (following_statements todo) e ≡ stepwise_first todo e
first_step s no_statements e h = absurd h
first_step s (statement t rest) e h = ap (λ (u : PlainStatement ℕ Callee Shape). stepwise_step u rest e) (sym h)

-- it is resolved if all are
pub first_resolved : (s : PlainStatement ℕ Callee Shape) (todo : PlainStatements ℕ Callee Shape) (variables names : List Name) → IsFirst s todo → AreAllResolved todo variables names → IsResolvedStatement s variables names
first_resolved s no_statements variables names h r = absurd h
first_resolved s (statement t rest) variables names h r = subst (λ (u : PlainStatement ℕ Callee Shape). IsResolvedStatement u variables names) h r.0

pub ruleset first_rules = (first_is, first_step, first_resolved)

-- what follows the first statement is resolved if all are
pub following_resolved : (todo : PlainStatements ℕ Callee Shape) (variables names : List Name) → AreAllResolved todo variables names → AreAllResolved (following_statements todo) variables names
following_resolved no_statements variables names r = tt
following_resolved (statement s rest) variables names r = r.1

-- terms of a list are resolved one by one
terms_resolved : {D : Type 0} (ts : List (PlainTerm ℕ Callee D)) (names : List Name) → AllByRecursion (λ t. IsResolved t names) ts → AreTermsResolved (terms_of ts) names
terms_resolved [] names h = tt
terms_resolved (t ∷ ts) names h = (h.0, terms_resolved ts names h.1)

-- the arguments of a `fire` that comes first are resolved if all statements are
pub firing_resolved : (f : PlainFiring ℕ Callee Shape) (s : PlainStatement ℕ Callee Shape) (todo : PlainStatements ℕ Callee Shape) (variables names : List Name) → s ≡ fire f → IsFirst s todo → AreAllResolved todo variables names → AreTermsResolved (terms_of f.arguments) names
firing_resolved f s todo variables names e h r = terms_resolved f.arguments names (subst (λ (u : PlainStatement ℕ Callee Shape). IsResolvedStatement u variables names) e (first_resolved s todo variables names h r))

-- where a `fire` comes first, a turn comes to it
pub fire_first : (f : PlainFiring ℕ Callee Shape) (s : PlainStatement ℕ Callee Shape) (todo : PlainStatements ℕ Callee Shape) (n : ℕ) (e : Bindings) → s ≡ fire f → IsFirst s todo → stepwise_turn todo n e ≡ and_then (stepwise_answers (terms_of f.arguments) e) (λ vs. Ok (turn_result (fires f.kind f.action vs) todo e))
fire_first f s no_statements n e k h = absurd h
fire_first f s (statement t rest) n e k h = rw (h, k) refl

-- where another statement comes first, a turn that takes none is idle
idle_by : (s : PlainStatement ℕ Callee Shape) (rest : PlainStatements ℕ Callee Shape) (e : Bindings) → is_fire s ≡ false → stepwise_turn (statement s rest) 0 e ≡ Ok (turn_result idle (statement s rest) e)
idle_by (assign p t) rest e h = refl
idle_by (branch arms others) rest e h = refl
idle_by (loop t body) rest e h = refl
idle_by (fire f) rest e h = absurd (cc)
idle_by (choosing c) rest e h = refl

pub idle_first : (s : PlainStatement ℕ Callee Shape) (todo : PlainStatements ℕ Callee Shape) (e : Bindings) → is_fire s ≡ false → IsFirst s todo → stepwise_turn todo 0 e ≡ Ok (turn_result idle todo e)
idle_first s no_statements e k h = absurd h
idle_first s (statement t rest) e k h = rw h (idle_by s rest e k)

-- where a `fire` comes first, the block stands at it
pub fire_stands : (f : PlainFiring ℕ Callee Shape) (s : PlainStatement ℕ Callee Shape) (todo : PlainStatements ℕ Callee Shape) → s ≡ fire f → IsFirst s todo → IsAtFiring f todo
fire_stands f s no_statements k h = absurd h
fire_stands f s (statement t rest) k h = h ∙ k

-- a block that stands at this `fire` stands at one
pub firing_stands : (f : PlainFiring ℕ Callee Shape) (todo : PlainStatements ℕ Callee Shape) → IsAtFiring f todo → IsAtFire todo
firing_stands f no_statements h = absurd h
firing_stands f (statement s rest) h = rw h refl

pub ruleset here_rules = (idle_first, fire_first, fire_stands)

-- a turn goes on behind a statement that is taken
pub turn_goes_on : (todo : PlainStatements ℕ Callee Shape) (n : ℕ) (e : Bindings) → ends_turn todo ≡ false → 0 < n → stepwise_turn todo n e ≡ and_then (stepwise_first todo e) (λ p. stepwise_turn p.0 (n - 1) p.1)
turn_goes_on todo zero e h l = absurd (omega arith)
turn_goes_on no_statements (suc n) e h l = absurd (cc)
turn_goes_on (statement (assign p t) rest) (suc n) e h l = let same : suc n - 1 ≡ n = omega arith in rw same refl
turn_goes_on (statement (branch arms others) rest) (suc n) e h l = let same : suc n - 1 ≡ n = omega arith in rw same refl
turn_goes_on (statement (loop t body) rest) (suc n) e h l = let same : suc n - 1 ≡ n = omega arith in rw same refl
turn_goes_on (statement (fire f) rest) (suc n) e h l = absurd (cc)
turn_goes_on (statement (choosing c) rest) (suc n) e h l = refl

pub turn_on : (todo next : PlainStatements ℕ Callee Shape) (n : ℕ) (e d : Bindings) → ends_turn todo ≡ false → 0 < n → stepwise_first todo e ≡ Ok (next, d) → stepwise_turn todo n e ≡ stepwise_turn next (n - 1) d
turn_on todo next n e d h l k = turn_goes_on todo n e h l ∙ rw k refl

-- a statement without a result ends it
pub turn_fails : (todo : PlainStatements ℕ Callee Shape) (n : ℕ) (e : Bindings) (f : TermFault) → ends_turn todo ≡ false → 0 < n → stepwise_first todo e ≡ Err f → stepwise_turn todo n e ≡ Err f
turn_fails todo n e f h l k = turn_goes_on todo n e h l ∙ rw k refl

-- where a turn ends by itself, it ends at once
pub turn_ends : (todo : PlainStatements ℕ Callee Shape) (n : ℕ) (e : Bindings) → ends_turn todo ≡ true → stepwise_turn todo n e ≡ stepwise_turn todo 0 e
turn_ends no_statements n e h = refl
turn_ends (statement (assign p t) rest) n e h = absurd (cc)
turn_ends (statement (branch arms others) rest) n e h = absurd (cc)
turn_ends (statement (loop t body) rest) n e h = absurd (cc)
turn_ends (statement (fire f) rest) n e h = refl
turn_ends (statement (choosing c) rest) n e h = absurd (cc)
