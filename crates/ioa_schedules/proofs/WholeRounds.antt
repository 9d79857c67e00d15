-- Rounds of a `while` that change nothing: a turn is the same without them.
use Rattle.std.proofs.Common.{◌≡◌, ℕ, zero, suc, ◌+◌, ◌*◌, ◌-◌, ◌/◌, ◌%◌, ◌<◌, ◌≤◌, Bool, true, false, Option, Some, None, IfSome, Result, Ok, Err, refl, ap, subst, ◌∙◌, arith}
use Rattle.std.proofs.Math.Nat.{suc-mul}
use Rattle.std.specs.Option.{option_and_then}
use Rattle.std.proofs.lemmas.Nat.{div-add-mod'}
use Rattle.ioa_values.specs.Outcome.{and_then}
use Rattle.ioa_operators.specs.declared.shape.Shape.{Shape}
use Rattle.ioa_operators.specs.declared.fault.TermFault.{TermFault}
use Rattle.ioa_terms.specs.declared.callee.Callee.{Callee}
use Rattle.ioa_terms.specs.Bindings.{Bindings}
use Rattle.ioa_terms.specs.PlainTerm.{PlainTerm, PlainStatement, PlainStatements, PlainArms, assign, branch, loop, fire, choosing, no_statements, statement, no_arms, arm}
use Rattle.ioa_terms.specs.Stepwise.{stepwise_test}
use Rattle.ioa_schedules.specs.Turns.{TurnResult, joined_statements}
use Rattle.ioa_schedules.specs.TurnsByStep.{if_true, stepwise_choice, stepwise_turn}
use Rattle.ioa_schedules.specs.Rounds.{count_by, quiet_all, quiet_one, quiet_choice, round_of}

-- what is to do, and the environment
abbrev State : Type 0
State = PlainStatements ℕ Callee Shape × Bindings

-- what a turn comes to, by how many statements it may take
abbrev Course : Type 0
Course = ℕ → Result TurnResult TermFault

-- between two counts so many statements are taken, and one course becomes the other
record Counted (k n : ℕ) (before after : Course) : Type 0 where
  taken : ℕ
  sum : n ≡ k + taken
  same : (l : ℕ) → before (taken + l) ≡ after l

-- one count after another
both_counted : (k m n : ℕ) (before between after : Course) → Counted k m before between → Counted m n between after → Counted k n before after
both_counted k m n before between after x y = record {
  taken = x.taken + y.taken;
  sum = omega (arith, x.sum, y.sum);
  same = λ l. let apart : x.taken + y.taken + l ≡ x.taken + (y.taken + l) = omega arith in ap before apart ∙ x.same (y.taken + l) ∙ y.same l;
}

-- one statement
one_taken : (k : ℕ) (before after : Course) → ((l : ℕ) → before (suc l) ≡ after l) → Counted k (k + 1) before after
one_taken k before after h = record {
  taken = 1;
  sum = refl;
  same = λ l. let more : 1 + l ≡ suc l = omega arith in ap before more ∙ h l;
}

behind_first : (o : Option ℕ) (more : ℕ → Option ℕ) (k n : ℕ) (before between after : Course) → ((m : ℕ) → o ≡ Some m → Counted k m before between) → ((m : ℕ) → more m ≡ Some n → Counted m n between after) → option_and_then more o ≡ Some n → Counted k n before after
behind_first None more k n before between after f g h = absurd (cc)
behind_first (Some m) more k n before between after f g h = both_counted k m n before between after (f m refl) (g m h)

-- the tests decide
test_false : (r : Result Bool TermFault) (m n : ℕ) → count_by r None (Some m) ≡ Some n → (r ≡ Ok false) × (m ≡ n)
test_false (Ok true) m n h = absurd (cc)
test_false (Ok false) m n h = (refl, cc)
test_false (Err f) m n h = absurd (cc)

test_true : (r : Result Bool TermFault) (o : Option ℕ) (n : ℕ) → count_by r o None ≡ Some n → (r ≡ Ok true) × (o ≡ Some n)
test_true (Ok true) o n h = (refl, h)
test_true (Ok false) o n h = absurd (cc)
test_true (Err f) o n h = absurd (cc)

-- how an `if` goes on
abbrev on_choice : Result (PlainStatements ℕ Callee Shape) TermFault → PlainStatements ℕ Callee Shape → Bindings → Course
on_choice r rest e l = and_then (and_then {B = State} r (λ body. Ok (joined_statements body rest, e))) (λ p. stepwise_turn p.0 l p.1)

arm_counted : (r : Result Bool TermFault) (body rest : PlainStatements ℕ Callee Shape) (later : Result (PlainStatements ℕ Callee Shape) TermFault) (held other : Option ℕ) (k n : ℕ) (e : Bindings) → count_by r held other ≡ Some n → (held ≡ Some n → Counted k n (λ l. stepwise_turn (joined_statements body rest) l e) (λ l. stepwise_turn rest l e)) → (other ≡ Some n → Counted k n (on_choice later rest e) (λ l. stepwise_turn rest l e)) → Counted k n (on_choice (if_true r (Ok body) later) rest e) (λ l. stepwise_turn rest l e)
arm_counted (Ok true) body rest later held other k n e h f g = f h
arm_counted (Ok false) body rest later held other k n e h f g = g h
arm_counted (Err x) body rest later held other k n e h f g = absurd (cc)

mutual
  all_counted : (ss rest : PlainStatements ℕ Callee Shape) (k n : ℕ) (e : Bindings) → quiet_all ss k e ≡ Some n → Counted k n (λ l. stepwise_turn (joined_statements ss rest) l e) (λ l. stepwise_turn rest l e)
  all_counted no_statements rest k n e h = record {
    taken = 0;
    sum = let same : k ≡ n = cc in omega (arith, same);
    same = λ l. let none : 0 + l ≡ l = omega arith in ap (λ (m : ℕ). stepwise_turn rest m e) none;
  }
  all_counted (statement s ss) rest k n e h = behind_first (quiet_one s k e) (λ m. quiet_all ss m e) k n (λ l. stepwise_turn (statement s (joined_statements ss rest)) l e) (λ l. stepwise_turn (joined_statements ss rest) l e) (λ l. stepwise_turn rest l e) (λ m g. one_counted s (joined_statements ss rest) k m e g) (λ m g. all_counted ss rest m n e g) h

  one_counted : (s : PlainStatement ℕ Callee Shape) (rest : PlainStatements ℕ Callee Shape) (k n : ℕ) (e : Bindings) → quiet_one s k e ≡ Some n → Counted k n (λ l. stepwise_turn (statement s rest) l e) (λ l. stepwise_turn rest l e)
  one_counted (assign p t) rest k n e h = absurd (cc)
  one_counted (branch arms others) rest k n e h = both_counted k (k + 1) n (λ l. stepwise_turn (statement (branch arms others) rest) l e) (on_choice (stepwise_choice arms others e) rest e) (λ l. stepwise_turn rest l e) (one_taken k (λ l. stepwise_turn (statement (branch arms others) rest) l e) (on_choice (stepwise_choice arms others e) rest e) (λ l. refl)) (choice_counted arms others rest (quiet_all others (k + 1) e) (k + 1) n e h (λ g. all_counted others rest (k + 1) n e g))
  one_counted (loop t body) rest k n e h =
      let found = test_false (stepwise_test t e) (k + 1) n h in
      subst (λ (m : ℕ). Counted k m (λ l. stepwise_turn (statement (loop t body) rest) l e) (λ l. stepwise_turn rest l e)) found.1 (one_taken k (λ l. stepwise_turn (statement (loop t body) rest) l e) (λ l. stepwise_turn rest l e) (λ l. rw found.0 refl))
  one_counted (fire f) rest k n e h = absurd (cc)
  one_counted (choosing c) rest k n e h = absurd (cc)

  choice_counted : (arms : PlainArms ℕ Callee Shape) (others rest : PlainStatements ℕ Callee Shape) (other : Option ℕ) (k n : ℕ) (e : Bindings) → quiet_choice arms other k e ≡ Some n → (other ≡ Some n → Counted k n (λ l. stepwise_turn (joined_statements others rest) l e) (λ l. stepwise_turn rest l e)) → Counted k n (on_choice (stepwise_choice arms others e) rest e) (λ l. stepwise_turn rest l e)
  choice_counted no_arms others rest other k n e h f = f h
  choice_counted (arm t body more) others rest other k n e h f = arm_counted (stepwise_test t e) body rest (stepwise_choice more others e) (quiet_all body k e) (quiet_choice more other k e) k n e h (λ g. all_counted body rest k n e g) (λ g. choice_counted more others rest other k n e g f)

-- a round begins where it ends
while_round : (t : PlainTerm ℕ Callee Shape) (body rest : PlainStatements ℕ Callee Shape) (n : ℕ) (e : Bindings) → stepwise_test t e ≡ Ok true → quiet_all body 1 e ≡ Some n → Counted 0 n (λ l. stepwise_turn (statement (loop t body) rest) l e) (λ l. stepwise_turn (statement (loop t body) rest) l e)
while_round t body rest n e h k =
    let again = statement (loop t body) rest in
    both_counted 0 1 n (λ l. stepwise_turn again l e) (λ l. stepwise_turn (joined_statements body again) l e) (λ l. stepwise_turn again l e) (one_taken 0 (λ l. stepwise_turn again l e) (λ l. stepwise_turn (joined_statements body again) l e) (λ l. rw h refl)) (all_counted body again 1 n e k)

round_counted : (todo : PlainStatements ℕ Callee Shape) (n : ℕ) (e : Bindings) → round_of todo e ≡ Some n → Counted 0 n (λ l. stepwise_turn todo l e) (λ l. stepwise_turn todo l e)
round_counted no_statements n e h = absurd (cc)
round_counted (statement (assign p t) rest) n e h = absurd (cc)
round_counted (statement (branch arms others) rest) n e h = absurd (cc)
round_counted (statement (loop t body) rest) n e h =
    let found = test_true (stepwise_test t e) (quiet_all body 1 e) n h in
    while_round t body rest n e found.0 found.1
round_counted (statement (fire f) rest) n e h = absurd (cc)
round_counted (statement (choosing c) rest) n e h = absurd (cc)

-- many rounds
many_rounds : (n : ℕ) (course : Course) (m l : ℕ) → Counted 0 n course course → course (m * n + l) ≡ course l
many_rounds n course zero l x = let none : zero * n + l ≡ l = omega arith in ap course none
many_rounds n course (suc m) l x =
    let more : suc m * n ≡ m * n + n = suc-mul m n in
    let apart : suc m * n + l ≡ x.taken + (m * n + l) = omega (arith, more, x.sum) in
    ap course apart ∙ x.same (m * n + l) ∙ many_rounds n course m l x

-- a turn is the same without the whole rounds, before which it takes a statement at least
rounds_counted : (todo : PlainStatements ℕ Callee Shape) (n left : ℕ) (e : Bindings) → 0 < left
    → round_of todo e ≡ Some n → stepwise_turn todo left e ≡ stepwise_turn todo ((left - 1) % n + 1) e
rounds_counted todo n left e h k =
    let apart : left ≡ (left - 1) / n * n + ((left - 1) % n + 1) = omega (arith, div-add-mod' (left - 1) n, h) in
    ap (λ (l : ℕ). stepwise_turn todo l e) apart
    ∙ many_rounds n (λ l. stepwise_turn todo l e) ((left - 1) / n) ((left - 1) % n + 1) (round_counted todo n e k)

-- the same of a `while` whose test is true
pub rounds_left : (t : PlainTerm ℕ Callee Shape) (body rest : PlainStatements ℕ Callee Shape) (n left : ℕ)
    (e : Bindings) → 0 < left → quiet_all body 1 e ≡ Some n → stepwise_test t e ≡ Ok true
    → stepwise_turn (statement (loop t body) rest) left e
    ≡ stepwise_turn (statement (loop t body) rest) ((left - 1) % n + 1) e
rounds_left t body rest n left e h k l =
    let round : round_of (statement (loop t body) rest) e ≡ Some n = rw l k in
    rounds_counted (statement (loop t body) rest) n left e h round

pub rest_fewer : (n left : ℕ) → 0 < left → (left - 1) % n + 1 ≤ left
rest_fewer n left h = omega (arith, div-add-mod' (left - 1) n, h)

-- a round takes a statement
above_one : (body : PlainStatements ℕ Callee Shape) (n : ℕ) (e : Bindings) → quiet_all body 1 e ≡ Some n → 0 < n
above_one body n e h =
    let x = all_counted body no_statements 1 n e h in
    omega (arith, x.sum)

pub round_above : (o : Option ℕ) (body : PlainStatements ℕ Callee Shape) (e : Bindings)
    → IfSome o (λ n. quiet_all body 1 e ≡ Some n) → IfSome o (λ n. 0 < n)
round_above None body e h = tt
round_above (Some n) body e h = above_one body n e h
