-- What a turn leaves to do bears the numbers of its rules, if what was to do did.
use Rattle.std.proofs.Common.{◌≡◌, ℕ, zero, suc, Bool, true, false, Option, Some, None, Result, Ok, Err, List, IfErr, if◌then◌else◌, refl, sym, ap, subst}
use Rattle.std.specs.Prelude.{OnErr}
use Rattle.std.specs.List.{list_all}
use Rattle.std.specs.Option.{IfSome, ok_or}
use Rattle.ioa_values.specs.Data.{Data, is_within}
use Rattle.ioa_values.specs.Outcome.{Answers}
use Rattle.ioa_operators.specs.declared.fault.TermFault.{TermFault}
use Rattle.ioa_operators.specs.declared.fault.TermFault.TheVariants.{Undefined, Range, Memory}
use Rattle.ioa_operators.specs.declared.shape.Shape.{Shape}
use Rattle.ioa_operators.proofs.Holding.{and_then_holds, map_holds, map_holds_any}
use Rattle.ioa_terms.specs.declared.callee.Callee.{Callee}
use Rattle.ioa_terms.specs.Bindings.{Bindings}
use Rattle.ioa_terms.specs.Meaning.{values}
use Rattle.ioa_terms.specs.Performance.{assigned, by_test, test_value}
use Rattle.ioa_terms.specs.PlainTerm.{PlainStatement, PlainStatements, PlainArms, assign, branch, loop, fire, choosing, no_statements, statement, no_arms, arm, terms_of}
use Rattle.ioa_system.specs.Numbered.{IsNumbered, AreArmsNumbered, AreNumbered}
use Rattle.ioa_system.specs.Parts.{PlainRule}
use Rattle.ioa_schedules.specs.Turns.{TurnResult, turn_result, fires, joined_statements, following_statements, choice, after_step, numbers_met_by_turn, turn, turn_answer}
use Rattle.ioa_schedules.specs.States.{PlainState}
use Rattle.ioa_schedules.specs.Views.{turn_of}
use Rattle.ioa_schedules.specs.declared.turn.Turn.{Turn}
use Rattle.ioa_schedules.specs.declared.turn.Turn.TheVariants as turned

-- what comes after a test
tested : {A : Type 0} (P : A → Type 0) (o : Option Bool) (x y z : A) → P x → P y → P z → P (by_test o x y z)
tested P None x y z h k l = h
tested P (Some true) x y z h k l = k
tested P (Some false) x y z h k l = l

module _ (rules : List PlainRule) where
  -- a block behind its first statement
  following_numbered : (todo : PlainStatements ℕ Callee Shape) → AreNumbered rules todo → AreNumbered rules (following_statements todo)
  following_numbered no_statements h = tt
  following_numbered (statement s rest) h = h.1

  joined_numbered : (ss more : PlainStatements ℕ Callee Shape) → AreNumbered rules ss → AreNumbered rules more → AreNumbered rules (joined_statements ss more)
  joined_numbered no_statements more h g = g
  joined_numbered (statement s ss) more h g = (h.0, joined_numbered ss more h.1 g)

  choice_numbered : (arms : PlainArms ℕ Callee Shape) (rest : PlainStatements ℕ Callee Shape) (e : Bindings) → AreArmsNumbered rules arms → AreNumbered rules rest → IfSome (choice arms rest e) (AreNumbered rules)
  choice_numbered no_arms rest e h g = g
  choice_numbered (arm t body more) rest e h g =
      tested (λ (o : Option (PlainStatements ℕ Callee Shape)). IfSome o (AreNumbered rules)) (test_value t e) None (Some body) (choice more rest e)
      tt h.0 (choice_numbered more rest e h.1 g)

  -- what is to do is numbered
  abbrev IsLeftNumbered : PlainStatements ℕ Callee Shape × Bindings → Type 0
  IsLeftNumbered p = AreNumbered rules p.0

  step_numbered : (s : PlainStatement ℕ Callee Shape) (rest : PlainStatements ℕ Callee Shape) (e : Bindings) → IsNumbered rules s → AreNumbered rules rest → IfSome (after_step s rest e) IsLeftNumbered
  step_numbered (assign p t) rest e h g = map_holds_any IsLeftNumbered (λ d. (rest, d)) (assigned p t e) (λ d. g)
  step_numbered (branch arms others) rest e h g =
      map_holds (AreNumbered rules) IsLeftNumbered (λ body. (joined_statements body rest, e)) (choice arms others e) (choice_numbered arms others e h.0 h.1)
      (λ body k. joined_numbered body rest k g)
  step_numbered (loop t body) rest e h g =
      tested (λ (o : Option (PlainStatements ℕ Callee Shape × Bindings)). IfSome o IsLeftNumbered) (test_value t e) None (Some (joined_statements body (statement (loop t body) rest), e)) (Some (rest, e))
      tt (joined_numbered body (statement (loop t body) rest) h (h, g)) g
  step_numbered (fire f) rest e h g = tt
  step_numbered (choosing c) rest e h g = tt

  -- a turn
  abbrev IsTurnNumbered : TurnResult → Type 0
  IsTurnNumbered r = AreNumbered rules r.todo

  turn_kept : (todo : PlainStatements ℕ Callee Shape) (n : ℕ) (e : Bindings) → AreNumbered rules todo → IfSome (turn todo n e) IsTurnNumbered
  turn_kept no_statements n e h = tt
  turn_kept (statement (fire f) rest) n e h =
      map_holds_any IsTurnNumbered (λ vs. turn_result (fires f.kind f.action vs) (statement (fire f) rest) e) (values (terms_of f.arguments) e) (λ vs. h)
  turn_kept (statement (assign p t) rest) zero e h = h
  turn_kept (statement (branch arms others) rest) zero e h = h
  turn_kept (statement (loop t body) rest) zero e h = h
  turn_kept (statement (choosing c) rest) zero e h = h
  turn_kept (statement (assign p t) rest) (suc n) e h =
      and_then_holds IsLeftNumbered IsTurnNumbered (λ p. turn p.0 n p.1) (after_step (assign p t) rest e) (step_numbered (assign p t) rest e h.0 h.1) (λ p k. turn_kept p.0 n p.1 k)
  turn_kept (statement (branch arms others) rest) (suc n) e h =
      and_then_holds IsLeftNumbered IsTurnNumbered (λ p. turn p.0 n p.1) (after_step (branch arms others) rest e) (step_numbered (branch arms others) rest e h.0 h.1) (λ p k. turn_kept p.0 n p.1 k)
  turn_kept (statement (loop t body) rest) (suc n) e h =
      and_then_holds IsLeftNumbered IsTurnNumbered (λ p. turn p.0 n p.1) (after_step (loop t body) rest e) (step_numbered (loop t body) rest e h.0 h.1) (λ p k. turn_kept p.0 n p.1 k)
  turn_kept (statement (choosing c) rest) (suc n) e h = tt

  -- where a turn ends
  todo_left : (next : PlainStatements ℕ Callee Shape) (d : Bindings) (vs : List Data) (t : Turn) → (turn_of next d vs t).todo ≡ next
  todo_left next d vs (turned.Fire f) = refl
  todo_left next d vs turned.Idle = refl
  todo_left next d vs turned.Done = refl

  answered : (ds : List Data) (o : Option TurnResult) (r : TurnResult) → (if list_all is_within ds then ok_or o Undefined else Err Range) ≡ Ok r → IfSome o IsTurnNumbered → IsTurnNumbered r
  answered ds o r = by_range (list_all is_within ds) o
    where
      by_range : (b : Bool) (o : Option TurnResult) → (if b then ok_or o Undefined else Err Range) ≡ Ok r → IfSome o IsTurnNumbered → IsTurnNumbered r
      by_range true (Some q) h k = let same : q ≡ r = cc in subst IsTurnNumbered same k
      by_range true None h k = absurd (cc)
      by_range false o h k = absurd (cc)

  turn_numbered : (todo next : PlainStatements ℕ Callee Shape) (n : ℕ) (e d : Bindings) (vs : List Data) (t : Turn) → turn_answer todo n e ≡ Ok (turn_of next d vs t) → AreNumbered rules todo → AreNumbered rules next
  turn_numbered todo next n e d vs t h k =
      subst (AreNumbered rules) (todo_left next d vs t) (answered (numbers_met_by_turn todo n e) (turn todo n e) (turn_of next d vs t) h (turn_kept todo n e k))

  -- what is left after a turn, or after a fault, which leaves all as it was
  pub left_numbered : (todo next : PlainStatements ℕ Callee Shape) (n : ℕ) (e d : Bindings) (vs : List Data) (r : Result Turn TermFault) → Answers Memory (turn_of next d vs) r (turn_answer todo n e) → IfErr r (λ _. next ≡ todo) → AreNumbered rules todo → AreNumbered rules next
  left_numbered todo next n e d vs (Ok t) h k numbered = turn_numbered todo next n e d vs t h numbered
  left_numbered todo next n e d vs (Err f) h k numbered = subst (AreNumbered rules) (sym k) numbered

-- where a call failed, what was to do of a block that is as it was
pub todo_kept : {X E : Type 0} (r : Result X E) (s t : PlainState) → OnErr r (s ≡ t) → IfErr r (λ _. s.todo ≡ t.todo)
todo_kept (Ok x) s t h = tt
todo_kept (Err e) s t h = ap (λ (b : PlainState). b.todo) h
