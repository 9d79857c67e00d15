-- A turn uses no attempt.
use Rattle.std.proofs.Common.{◌≡◌, ℕ, Bool, true, false, List, Option, Some, None, Result, Ok, Err, if◌then◌else◌, refl, sym, ap, ◌∙◌}
use Rattle.std.specs.Prelude.{OnErr}
use Rattle.ioa_values.specs.Data.{Data}
use Rattle.ioa_values.specs.Outcome.{Answers}
use Rattle.ioa_operators.specs.declared.fault.TermFault.{TermFault}
use Rattle.ioa_actions.specs.declared.component.Component.TheVariants as component
use Rattle.ioa_terms.specs.Inboxes.{PlainInboxes}
use Rattle.ioa_compose.specs.Composition.{find_conf}
use Rattle.ioa_compose.specs.declared.configuration.Conf.{Conf}
use Rattle.ioa_compose.specs.declared.configuration.Conf.TheVariants.{Node, Queue}
use Rattle.ioa_record.specs.declared.ending.NodeFault.{NodeFault}
use Rattle.ioa_record.specs.declared.ending.NodeFault.TheVariants.{Differs, Memory}
use Rattle.ioa_schedules.specs.Turns.{TurnEnd, TurnResult}
use Rattle.ioa_turns.specs.Inboxes.{inboxes_seen}
use Rattle.ioa_turns.specs.NodeTurns.{PlainProgress, block_turn, reached, shows_program, turn_at, turn_on}

-- how many attempts are left after a turn; so many, if there is none
abbrev attempts_in : ℕ → Result (TurnEnd × PlainProgress) NodeFault → ℕ
attempts_in n (Ok t) = t.1.attempts
attempts_in n (Err f) = n

reached_keeps : (p : PlainProgress) (r : Result TurnResult TermFault) → attempts_in p.attempts (reached p r) ≡ p.attempts
reached_keeps p (Ok r) = refl
reached_keeps p (Err f) = refl

-- a turn of a block, which is opaque here
block_keeps : (p : PlainProgress) (is : Option PlainInboxes) (vs : List Data) → attempts_in p.attempts (block_turn p is vs) ≡ p.attempts
block_keeps p is vs = reached_keeps p _

on_keeps : (p : PlainProgress) (is : Option PlainInboxes) (o : Option Conf) → attempts_in p.attempts (turn_on p is o) ≡ p.attempts
on_keeps p is (Some (Node c)) = by_test (shows_program p.program c)
  where
    by_test : (b : Bool) → attempts_in p.attempts (if b then block_turn p is c.variables else Err Differs) ≡ p.attempts
    by_test true = block_keeps p is c.variables
    by_test false = refl
on_keeps p is (Some (Queue q)) = refl
on_keeps p is None = refl

-- a turn, as it is returned
pub turn_keeps : {X : Type 0} (end : X → TurnEnd) (states : List Conf) (p q : PlainProgress) (r : Result X NodeFault) →
    Answers Memory (λ t. (end t, q)) r (turn_at states p) → OnErr r (q ≡ p) → q.attempts ≡ p.attempts
turn_keeps end states p q (Ok t) told same =
    sym (ap (attempts_in p.attempts) told)
    ∙ on_keeps p (inboxes_seen p.program states) (find_conf (component.Node p.program.node) states)
turn_keeps end states p q (Err f) told same = ap (λ (x : PlainProgress). x.attempts) same
