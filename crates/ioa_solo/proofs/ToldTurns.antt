-- What an attempt comes to on the book as it is.
use Rattle.std.proofs.Common.{◌≡◌, ◌⊎◌, inl, inr, false, Option, Some, None, Result, Ok, Err, refl, sym, ap, subst, ◌∙◌}
use Rattle.std.specs.Prelude.{OnOk, is_some}
use Rattle.std.specs.Option.{option_map}
use Rattle.ioa_actions.specs.declared.component.Component.TheVariants as component
use Rattle.ioa_commits.specs.Books.{PlainBook, held_of, states_held}
use Rattle.ioa_commits.specs.Versions.{with_version}
use Rattle.ioa_compose.specs.Composition.{find_conf}
use Rattle.ioa_compose.specs.declared.configuration.Conf.{Conf}
use Rattle.ioa_record.specs.declared.ending.Ending.TheVariants.{Fault}
use Rattle.ioa_record.specs.declared.ending.NodeFault.{NodeFault}
use Rattle.ioa_record.specs.declared.ending.NodeFault.TheVariants as fault
use Rattle.ioa_schedules.specs.Turns.{TurnEnd}
use Rattle.ioa_passes.specs.declared.outcome.ViewFault.{ViewFault}
use Rattle.ioa_passes.specs.declared.outcome.ViewFault.TheVariants as view
use Rattle.ioa_turns.specs.Inboxes.{inboxes_seen}
use Rattle.ioa_turns.specs.NodeTurns.{PlainProgress, turn_at, turn_on, with_ending}
use Rattle.ioa_solo.specs.Fires.{Comes, IsAfterEnd, fault_of_view}
use Rattle.ioa_solo.specs.Solo.{IsEndedBy, after_turn, attempt, course_of}

-- a node that is not there has no turn
no_turn : (b : PlainBook) (p : PlainProgress) → is_some (held_of b (component.Node p.program.node)) ≡ false → turn_at (states_held b) p ≡ Err fault.Unknown
no_turn b p h = by_conf (find_conf (component.Node p.program.node) (states_held b)) h
  where
    by_conf : (o : Option Conf) → is_some (option_map (with_version b.log) o) ≡ false → turn_on p (inboxes_seen p.program (states_held b)) o ≡ Err fault.Unknown
    by_conf None e = refl
    by_conf (Some c) e = absurd (cc)

-- an attempt whose turn has a fault
ended_comes : (b : PlainBook) (p q : PlainProgress) (f : NodeFault) → turn_at (states_held b) p ≡ Err f → q ≡ with_ending (Fault f) p → Comes attempt b p b q
ended_comes b p q f h e =
    ap (λ (r : Result (TurnEnd × PlainProgress) NodeFault). after_turn b.limit (course_of b) p r) h
    ∙ ap (λ (r : PlainProgress). (course_of b, r)) (sym e)

pub turn_fails : (b : PlainBook) (p m q : PlainProgress) (f : NodeFault) → (f ≡ fault.Memory) ⊎ (turn_at (states_held b) p ≡ Err f) → m ≡ p → IsEndedBy f m q → Comes attempt b p b q
turn_fails b p m q f (inl e) same h = absurd (h.0 e)
turn_fails b p m q f (inr e) same h = ended_comes b p q f e (h.1 ∙ ap (λ (r : PlainProgress). with_ending (Fault f) r) same)

-- an attempt without a look
pub unseen_comes : (b : PlainBook) (p q : PlainProgress) (v : ViewFault) (f : NodeFault) → f ≡ fault_of_view v →
    (v ≡ view.Memory) ⊎ ((v ≡ view.Unknown) × (is_some (held_of b (component.Node p.program.node)) ≡ false)) → IsEndedBy f p q → Comes attempt b p b q
unseen_comes b p q view.Memory f is why h = absurd (h.0 is)
unseen_comes b p q view.Unknown f is (inl e) h = absurd (cc)
unseen_comes b p q view.Unknown f is (inr e) h =
    ended_comes b p q fault.Unknown (no_turn b p e.1) (h.1 ∙ ap (λ (x : NodeFault). with_ending (Fault x) p) is)
unseen_comes b p q (view.Older o) f is (inl e) h = absurd (cc)
unseen_comes b p q (view.Older o) f is (inr e) h = let bad : view.Older o ≡ view.Unknown = e.0 in absurd (cc)

-- an attempt with a turn, by what follows from the turn
pub turn_comes : (b new : PlainBook) (p m q : PlainProgress) (e : TurnEnd) → turn_at (states_held b) p ≡ Ok (e, m) →
    after_turn b.limit (course_of b) p (Ok (e, m)) ≡ (course_of new, q) → Comes attempt b p new q
turn_comes b new p m q e h g = ap (λ (r : Result (TurnEnd × PlainProgress) NodeFault). after_turn b.limit (course_of b) p r) h ∙ g

-- the same by what a call has done
module _ {X E : Type 0} (result : Result X E) (b new : PlainBook) (p m q : PlainProgress) where
  pub turn_came : (e : TurnEnd) → turn_at (states_held b) p ≡ Ok (e, m) → OnOk result (IsAfterEnd b m e new q) → OnOk result (Comes attempt b p new q)
  turn_came e h g = by_result result g
    where
      by_result : (r : Result X E) → OnOk r (IsAfterEnd b m e new q) → OnOk r (Comes attempt b p new q)
      by_result (Ok x) k = turn_comes b new p m q e h k
      by_result (Err f) k = tt

  pub turn_failed : (f : NodeFault) → (f ≡ fault.Memory) ⊎ (turn_at (states_held b) p ≡ Err f) → m ≡ p → OnOk result (IsEndedBy f m q) → OnOk result (Comes attempt b p b q)
  turn_failed f h same g = by_result result g
    where
      by_result : (r : Result X E) → OnOk r (IsEndedBy f m q) → OnOk r (Comes attempt b p b q)
      by_result (Ok x) k = turn_fails b p m q f h same k
      by_result (Err e) k = tt

  pub unseen_came : (v : ViewFault) (f : NodeFault) → f ≡ fault_of_view v →
      (v ≡ view.Memory) ⊎ ((v ≡ view.Unknown) × (is_some (held_of b (component.Node p.program.node)) ≡ false)) → new ≡ b → OnOk result (IsEndedBy f p q) → OnOk result (Comes attempt b p new q)
  unseen_came v f is why same g = by_result result g
    where
      by_result : (r : Result X E) → OnOk r (IsEndedBy f p q) → OnOk r (Comes attempt b p new q)
      by_result (Ok x) k = subst (λ (c : PlainBook). Comes attempt b p c q) (sym same) (unseen_comes b p q v f is why k)
      by_result (Err e) k = tt
