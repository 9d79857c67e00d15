-- A turn, one statement after another.
use Rattle.std.proofs.Common.{◌≡◌, ℕ, Bool, true, false, List, Result, Ok, Err, refl, sym, ap, subst, length, arith}
use Rattle.std.proofs.lemmas.List.{length-append}
use Rattle.ioa_values.specs.Data.{Data}
use Rattle.ioa_values.specs.Outcome.{and_then}
use Rattle.ioa_operators.specs.declared.shape.Shape.{Shape}
use Rattle.ioa_operators.specs.declared.fault.TermFault.{TermFault}
use Rattle.ioa_terms.specs.declared.callee.Callee.{Callee}
use Rattle.ioa_terms.specs.Inboxes.{lent_values}
use Rattle.ioa_terms.specs.declared.name.Name.{Name}
use Rattle.ioa_terms.specs.Bindings.{Bindings}
use Rattle.ioa_terms.specs.PlainTerm.{PlainStatement, PlainStatements, PlainArms, assign, branch, loop, fire, choosing, no_statements, statement, no_arms, arm}
use Rattle.ioa_terms.specs.Resolved.{AreAllResolved, AreArmsResolved, IsResolvedStatement}
use Rattle.ioa_terms.specs.Stepwise.{stepwise_test, stepwise_assigned}
use Rattle.ioa_terms.specs.declared.environment.View.{View}
use Rattle.ioa_schedules.specs.Turns.{joined_statements}
use Rattle.ioa_schedules.specs.TurnsByStep.{if_true, stepwise_choice, stepwise_step, stepwise_first}
use Rattle.ioa_terms.specs.Views.{IsNamed, own_names, names_in_view}
use Rattle.ioa_schedules.specs.Views.{AreResolvedIn}
use Rattle.ioa_schedules.proofs.Firsts.{turn_fails, turn_on}

module _ (variables names : List Name) where
  -- statements one list behind another are resolved if both are
  joined_resolved : (xs ys : PlainStatements ℕ Callee Shape) → AreAllResolved xs variables names → AreAllResolved ys variables names → AreAllResolved (joined_statements xs ys) variables names
  joined_resolved no_statements ys h k = k
  joined_resolved (statement x xs) ys h k = (h.0, joined_resolved xs ys h.1 k)

  -- what an `if` goes on with is resolved
  by_answer : (r : Result Bool TermFault) (first body : PlainStatements ℕ Callee Shape) (other : Result (PlainStatements ℕ Callee Shape) TermFault) → if_true r (Ok first) other ≡ Ok body → AreAllResolved first variables names → (other ≡ Ok body → AreAllResolved body variables names) → AreAllResolved body variables names
  by_answer (Ok true) first body other e h k = let same : first ≡ body = cc in subst (λ (ss : PlainStatements ℕ Callee Shape). AreAllResolved ss variables names) same h
  by_answer (Ok false) first body other e h k = k e
  by_answer (Err f) first body other e h k = absurd (cc)

  choice_resolved : (arms : PlainArms ℕ Callee Shape) (rest body : PlainStatements ℕ Callee Shape) (e : Bindings) → stepwise_choice arms rest e ≡ Ok body → AreArmsResolved arms variables names → AreAllResolved rest variables names → AreAllResolved body variables names
  choice_resolved no_arms rest body e h r k = let same : rest ≡ body = cc in subst (λ (ss : PlainStatements ℕ Callee Shape). AreAllResolved ss variables names) same k
  choice_resolved (arm t first more) rest body e h r k = by_answer (stepwise_test t e) first body (stepwise_choice more rest e) h r.1 (λ g. choice_resolved more rest body e g r.2 k)

  -- what is left behind an assignment
  behind : (r : Result Bindings TermFault) (rest next : PlainStatements ℕ Callee Shape) (d : Bindings) → and_then {B = PlainStatements ℕ Callee Shape × Bindings} r (λ x. Ok (rest, x)) ≡ Ok (next, d) → AreAllResolved rest variables names → AreAllResolved next variables names
  behind (Ok x) rest next d e h = let p : (rest, x) ≡ (next, d) = cc in subst (λ (ss : PlainStatements ℕ Callee Shape). AreAllResolved ss variables names) (ap (λ (q : PlainStatements ℕ Callee Shape × Bindings). q.0) p) h
  behind (Err f) rest next d e h = absurd (cc)

  -- what is left of an `if`
  branched : (r : Result (PlainStatements ℕ Callee Shape) TermFault) (rest next : PlainStatements ℕ Callee Shape) (e d : Bindings) → and_then {B = PlainStatements ℕ Callee Shape × Bindings} r (λ body. Ok (joined_statements body rest, e)) ≡ Ok (next, d) → ((body : PlainStatements ℕ Callee Shape) → r ≡ Ok body → AreAllResolved body variables names) → AreAllResolved rest variables names → AreAllResolved next variables names
  branched (Ok body) rest next e d g h k = let p : (joined_statements body rest, e) ≡ (next, d) = cc in subst (λ (ss : PlainStatements ℕ Callee Shape). AreAllResolved ss variables names) (ap (λ (q : PlainStatements ℕ Callee Shape × Bindings). q.0) p) (joined_resolved body rest (h body refl) k)
  branched (Err f) rest next e d g h k = absurd (cc)

  -- what is left of a `while`
  looped : (r : Result Bool TermFault) (body again rest next : PlainStatements ℕ Callee Shape) (e d : Bindings) → if_true {A = PlainStatements ℕ Callee Shape × Bindings} r (Ok (joined_statements body again, e)) (Ok (rest, e)) ≡ Ok (next, d) → AreAllResolved body variables names → AreAllResolved again variables names → AreAllResolved rest variables names → AreAllResolved next variables names
  looped (Ok true) body again rest next e d g h k l = let p : (joined_statements body again, e) ≡ (next, d) = cc in subst (λ (ss : PlainStatements ℕ Callee Shape). AreAllResolved ss variables names) (ap (λ (q : PlainStatements ℕ Callee Shape × Bindings). q.0) p) (joined_resolved body again h k)
  looped (Ok false) body again rest next e d g h k l = let p : (rest, e) ≡ (next, d) = cc in subst (λ (ss : PlainStatements ℕ Callee Shape). AreAllResolved ss variables names) (ap (λ (q : PlainStatements ℕ Callee Shape × Bindings). q.0) p) l
  looped (Err f) body again rest next e d g h k l = absurd (cc)

  -- what is left of any statement
  step_resolved : (s : PlainStatement ℕ Callee Shape) (rest next : PlainStatements ℕ Callee Shape) (e d : Bindings) → stepwise_step s rest e ≡ Ok (next, d) → IsResolvedStatement s variables names → AreAllResolved rest variables names → AreAllResolved next variables names
  step_resolved (assign p t) rest next e d h s r = behind (stepwise_assigned p t e) rest next d h r
  step_resolved (branch arms others) rest next e d h s r = branched (stepwise_choice arms others e) rest next e d h (λ body g. choice_resolved arms others body e g s.0 s.1) r
  step_resolved (loop t body) rest next e d h s r = looped (stepwise_test t e) body (statement (loop t body) rest) rest next e d h s.1 (s, r) r
  step_resolved (fire f) rest next e d h s r = absurd (cc)
  step_resolved (choosing c) rest next e d h s r = absurd (cc)

  first_kept : (todo next : PlainStatements ℕ Callee Shape) (e d : Bindings) → stepwise_first todo e ≡ Ok (next, d) → AreAllResolved todo variables names → AreAllResolved next variables names
  first_kept no_statements next e d h r = absurd (cc)
  first_kept (statement s rest) next e d h r = step_resolved s rest next e d h r.0 r.1

-- what is left is resolved in the same view
pub kept_resolved : (v : View) (m n : ℕ) (todo next : PlainStatements ℕ Callee Shape) (e d : Bindings) → stepwise_first todo e ≡ Ok (next, d) → n ≡ m → AreResolvedIn v m todo → AreResolvedIn v n next
kept_resolved v m n todo next e d h same r = subst (λ (k : ℕ). AreResolvedIn v k next) (sym same) (first_kept (own_names v m) (names_in_view v) todo next e d h r)

-- and as many values have names
pub kept_named : (v : View) (xs ys : List Data) → length ys ≡ length xs → IsNamed v xs → IsNamed v ys
kept_named v xs ys h named =
    let before = length-append xs (lent_values v.lent) in
    let after = length-append ys (lent_values v.lent) in
    omega arith

-- what a statement leaves of a turn
pub ruleset on_rules = (turn_fails, turn_on, kept_resolved)
