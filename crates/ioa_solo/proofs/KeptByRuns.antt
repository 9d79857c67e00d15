-- What a run by one worker keeps: a law of the configurations that joint steps keep, and a law of each node among them
-- that the moves of the run keep.
use Rattle.std.proofs.Common.{◌≡◌, refl, ℕ, ℤ, zero, suc, ◌-◌, List, [], ◌∷◌, length, Bool, true, false}
use Rattle.std.specs.Prelude.{is_some, nat_eq, nat_lt, if◌then◌else◌, Result, Ok, Err}
use Rattle.std.specs.Ordering.{int_eq}
use Rattle.std.specs.List.{AllByRecursion}
use Rattle.ioa_actions.specs.ActionParts.{node_of}
use Rattle.ioa_actions.specs.declared.action.Action.{Action}
use Rattle.ioa_actions.specs.declared.fault.StepFault.{StepFault}
use Rattle.ioa_actions.specs.declared.fault.StepFault.TheVariants as step
use Rattle.ioa_transitions.specs.Entries.{PlainEntry}
use Rattle.ioa_compose.specs.Composition.{joint_answer, joint_pick}
use Rattle.ioa_compose.proofs.Picks.{joint_pick-entry}
use Rattle.ioa_compose.specs.declared.configuration.Conf.{Conf}
use Rattle.ioa_record.specs.declared.ending.Ending.{Ending}
use Rattle.ioa_record.specs.declared.ending.Ending.TheVariants.{Done, Spent, Fault}
use Rattle.ioa_record.specs.declared.ending.NodeFault.{NodeFault}
use Rattle.ioa_record.specs.declared.ending.NodeFault.TheVariants.{NotMine, Differs, Full, Unknown}
use Rattle.ioa_schedules.specs.Turns.{TurnEnd, fires, idle, done}
use Rattle.ioa_turns.specs.Fired.{action_fired}
use Rattle.ioa_solo.specs.Attempts.{PlainFireOutcome, missed, taken, fire_answer, step_outcome}
use Rattle.ioa_turns.specs.NodeTurns.{PlainProgress, past_fire, turn_at, with_ending}
use Rattle.ioa_solo.specs.Solo.{PlainCourse, after_fire, after_end, after_turn, visit, visit_unless_ended, round, rounds}

-- an ending that does not say that no configuration is the node's own: neither `Differs (51)` nor `Unknown (53)`
pub record IsOnOwn (e : Ending) : Type 0 where
  pub differs : e ≡ Fault Differs → ⊥
  pub unknown : e ≡ Fault Unknown → ⊥

-- a law of configurations, and one of a node among them, which each move of a run keeps: a joint step, a turn, the way
-- past a fire, the use of an attempt, and an ending
pub record AreKept (K : List Conf → Type 0) (N : List Conf → PlainProgress → Type 0) : Type 0 where
  pub step : (e : PlainEntry) (s t : List Conf) → K s → joint_answer e s ≡ Ok t → K t
  pub beside : (e : PlainEntry) (s t : List Conf) (p : PlainProgress) → K s → joint_answer e s ≡ Ok t → N s p → N t p
  pub turn : (s : List Conf) (p : PlainProgress) (t : TurnEnd × PlainProgress) → K s → N s p → turn_at s p ≡ Ok t → N s t.1
  pub fault : (s : List Conf) (p : PlainProgress) (f : NodeFault) → K s → N s p → turn_at s p ≡ Err f → N s (with_ending (Fault f) p)
  pub past : (s : List Conf) (p : PlainProgress) → N s p → N s (past_fire p)
  pub used : (s : List Conf) (p : PlainProgress) (n : ℕ) → N s p → N s (record p { attempts = n })
  pub ended : (s : List Conf) (p : PlainProgress) (e : Ending) → IsOnOwn e → N s p → N s (with_ending e p)

-- what a fire comes to leads on by a step, and is another fault than that of a node without a configuration of its own
LeadsToStep : List Conf → Result PlainFireOutcome NodeFault → Type 0
LeadsToStep states (Ok missed) = Unit {0}
LeadsToStep states (Ok (taken e next)) = joint_answer e states ≡ Ok next
LeadsToStep states (Err f) = IsOnOwn (Fault f)

outcome_leads : (limit : ℕ) (s : PlainCourse) (a : Action) (r : Result (PlainEntry × List Conf) StepFault) → joint_pick a s.states ≡ r → LeadsToStep s.states (step_outcome limit s.schedule r)
unfolding LeadsToStep
outcome_leads limit s a (Ok t) e = by_room (nat_lt (length s.schedule) limit)
  where
    by_room : (b : Bool) → LeadsToStep s.states (if b then Ok (taken t.0 t.1) else Err Full)
    by_room true = (joint_pick-entry a s.states t.0 t.1 e).1
    by_room false = record { differs = λ h. absurd (cc); unknown = λ h. absurd (cc) }
outcome_leads limit s a (Err step.NotEnabled) e = tt
outcome_leads limit s a (Err step.Undefined) e = record { differs = λ h. absurd (cc); unknown = λ h. absurd (cc) }
outcome_leads limit s a (Err step.Range) e = record { differs = λ h. absurd (cc); unknown = λ h. absurd (cc) }
outcome_leads limit s a (Err step.Memory) e = record { differs = λ h. absurd (cc); unknown = λ h. absurd (cc) }
outcome_leads limit s a (Err step.NotMine) e = record { differs = λ h. absurd (cc); unknown = λ h. absurd (cc) }
outcome_leads limit s a (Err step.NoChannel) e = record { differs = λ h. absurd (cc); unknown = λ h. absurd (cc) }
outcome_leads limit s a (Err step.NoChoice) e = record { differs = λ h. absurd (cc); unknown = λ h. absurd (cc) }

fire_leads : (limit : ℕ) (s : PlainCourse) (k : ℤ) (a : Action) → LeadsToStep s.states (fire_answer limit s.schedule s.states k a)
unfolding LeadsToStep
fire_leads limit s k a = by_node (int_eq (node_of a) k)
  where
    by_node : (b : Bool) → LeadsToStep s.states (if b then step_outcome limit s.schedule (joint_pick a s.states) else Err NotMine)
    by_node true = outcome_leads limit s a (joint_pick a s.states) refl
    by_node false = record { differs = λ h. absurd (cc); unknown = λ h. absurd (cc) }

module _ (K : List Conf → Type 0) (N : List Conf → PlainProgress → Type 0) (law : AreKept K N) where
  -- a visit of a node
  record VisitKeeps (old : List Conf) (v : PlainCourse × PlainProgress) : Type 0 where
    states : K v.0.states
    others : (q : PlainProgress) → N old q → N v.0.states q
    own : N v.0.states v.1

  fire_keeps : (r : Result PlainFireOutcome NodeFault) (s : PlainCourse) (p : PlainProgress) → LeadsToStep s.states r → K s.states → N s.states p → VisitKeeps s.states (after_fire r s p)
  unfolding LeadsToStep
  fire_keeps (Ok missed) s p leads k n = record { states = k; others = λ q x. x; own = law.past s.states p n }
  fire_keeps (Ok (taken e next)) s p leads k n = record {
    states = law.step e s.states next k leads;
    others = λ q x. law.beside e s.states next q k leads x;
    own = law.beside e s.states next (past_fire p) k leads (law.past s.states p n);
  }
  fire_keeps (Err f) s p leads k n = record { states = k; others = λ q x. x; own = law.ended s.states p (Fault f) leads n }

  end_keeps : (limit : ℕ) (s : PlainCourse) (p : PlainProgress) (e : TurnEnd) → K s.states → N s.states p → VisitKeeps s.states (after_end limit s p e)
  end_keeps limit s p done k n = record { states = k; others = λ q x. x; own = law.ended s.states p Done (record { differs = λ h. absurd (cc); unknown = λ h. absurd (cc) }) n }
  end_keeps limit s p idle k n = record { states = k; others = λ q x. x; own = n }
  end_keeps limit s p (fires kind w vs) k n =
      let a = action_fired p.program w vs in
      fire_keeps (fire_answer limit s.schedule s.states p.program.node a) s p (fire_leads limit s p.program.node a) k n

  turn_keeps : (limit : ℕ) (s : PlainCourse) (p : PlainProgress) (r : Result (TurnEnd × PlainProgress) NodeFault) → turn_at s.states p ≡ r → K s.states → N s.states p → VisitKeeps s.states (after_turn limit s p r)
  turn_keeps limit s p (Ok t) e k n = end_keeps limit s t.1 t.0 k (law.turn s.states p t k n e)
  turn_keeps limit s p (Err f) e k n = record { states = k; others = λ q x. x; own = law.fault s.states p f k n e }

  visit_keeps : (limit : ℕ) (s : PlainCourse) (p : PlainProgress) → K s.states → N s.states p → VisitKeeps s.states (visit_unless_ended limit s p)
  visit_keeps limit s p k n = by_ending (is_some p.ending) refl
    where
      by_attempts : (b : Bool) → nat_eq p.attempts 0 ≡ b → VisitKeeps s.states (visit limit s p)
      by_attempts true e = rw e (record { states = k; others = λ q x. x; own = law.ended s.states p Spent (record { differs = λ h. absurd (cc); unknown = λ h. absurd (cc) }) n })
      by_attempts false e =
          let used = record p { attempts = p.attempts - 1 } in
          rw e (turn_keeps limit s used (turn_at s.states used) refl k (law.used s.states p (p.attempts - 1) n))

      by_ending : (b : Bool) → is_some p.ending ≡ b → VisitKeeps s.states (visit_unless_ended limit s p)
      by_ending true e = rw e (record { states = k; others = λ q x. x; own = n })
      by_ending false e = rw e (by_attempts (nat_eq p.attempts 0) refl)

  -- what holds of each node still holds of each
  all_kept : (old new : List Conf) (ps : List PlainProgress) → ((q : PlainProgress) → N old q → N new q) → AllByRecursion (N old) ps → AllByRecursion (N new) ps
  all_kept old new [] kept h = tt
  all_kept old new (p ∷ more) kept h = (kept p h.0, all_kept old new more kept h.1)

  -- a round of nodes
  record RoundKeeps (old : List Conf) (r : PlainCourse × List PlainProgress) : Type 0 where
    states : K r.0.states
    others : (q : PlainProgress) → N old q → N r.0.states q
    nodes : AllByRecursion (N r.0.states) r.1

  round_keeps : (limit : ℕ) (s : PlainCourse) (ps : List PlainProgress) → K s.states → AllByRecursion (N s.states) ps → RoundKeeps s.states (round limit s ps)
  round_keeps limit s [] k h = record { states = k; others = λ q x. x; nodes = tt }
  round_keeps limit s (p ∷ more) k h = after_visit (visit_unless_ended limit s p) (visit_keeps limit s p k h.0) (λ t. round_keeps limit t more)
    where
      after_visit : (v : PlainCourse × PlainProgress) → VisitKeeps s.states v → ((t : PlainCourse) → K t.states → AllByRecursion (N t.states) more → RoundKeeps t.states (round limit t more)) → RoundKeeps s.states ((round limit v.0 more).0, v.1 ∷ (round limit v.0 more).1)
      after_visit v kept others =
          let rest = others v.0 kept.states (all_kept s.states v.0.states more kept.others h.1) in
          record { states = rest.states; others = λ q x. rest.others q (kept.others q x); nodes = (rest.others v.1 kept.own, rest.nodes) }

  -- and further rounds
  pub rounds_keep : (limit n : ℕ) (s : PlainCourse) (ps : List PlainProgress) → K s.states → AllByRecursion (N s.states) ps → K (rounds limit n s ps).0.states × AllByRecursion (N (rounds limit n s ps).0.states) (rounds limit n s ps).1
  unfolding rounds
  rounds_keep limit zero s ps k h = (k, h)
  rounds_keep limit (suc n) s ps k h =
      let r = round_keeps limit s ps k h in
      rounds_keep limit n (round limit s ps).0 (round limit s ps).1 r.states r.nodes
