-- A run by one worker makes each turn on a configuration of the node's own, so no node ends with `Differs (51)` or
-- `Unknown (53)`.
use Rattle.std.proofs.Common.{◌≡◌, ◌≢◌, refl, sym, ◌∙◌, subst, ℕ, ◌+◌, List, [], ◌∷◌, length, map, Bool, true, false, Some}
use Rattle.std.specs.Prelude.{Result, Ok, Err}
use Rattle.std.specs.List.{AllByRecursion}
use Rattle.std.proofs.lemmas.Cmp.{nat_eq_equiv}
use Rattle.ioa_transitions.specs.Entries.{PlainEntry}
use Rattle.ioa_actions.specs.declared.component.Component.TheVariants as component
use Rattle.ioa_operators.specs.declared.fault.TermFault.{TermFault}
use Rattle.ioa_operators.specs.declared.fault.TermFault.TheVariants as term
use Rattle.ioa_transitions.specs.NodeState.{NodeState, node_state}
use Rattle.ioa_compose.specs.Composition.{find_conf}
use Rattle.ioa_compose.specs.declared.configuration.Conf.{Conf}
use Rattle.ioa_compose.specs.declared.configuration.Conf.TheVariants.{Node, Queue}
use Rattle.ioa_compose.specs.IsStart.{StartsInitial}
use Rattle.ioa_compose.specs.JointStep.{IsJointState, IsJointStep, TakesStep}
use Rattle.ioa_compose.specs.Participants.{takes_part}
use Rattle.ioa_compose.specs.Start.{start}
use Rattle.ioa_compose.specs.Steps.{IsStep}
use Rattle.ioa_compose.proofs.Compositions.{is_joint_step, joint_state_after}
use Rattle.ioa_compose.proofs.Starts.{is_start, start_state}
use Rattle.ioa_system.specs.Declarations.{IsWellDeclared}
use Rattle.ioa_system.specs.Parts.{Parts}
use Rattle.ioa_system.specs.Systems.{SystemParts}
use Rattle.ioa_record.specs.declared.ending.Ending.{Ending}
use Rattle.ioa_record.specs.declared.ending.Ending.TheVariants.{Fault}
use Rattle.ioa_record.specs.declared.ending.NodeFault.{NodeFault}
use Rattle.ioa_record.specs.declared.ending.NodeFault.TheVariants.{Differs, Unknown}
use Rattle.ioa_schedules.specs.Turns.{TurnEnd, TurnResult}
use Rattle.ioa_turns.specs.NodeTurns.{PlainProgress, progress_at, reached, shows_program, turn_at, with_ending}
use Rattle.ioa_solo.specs.Solo.{solo}
use Rattle.ioa_solo.proofs.KeptByRuns.{AreKept, IsOnOwn, rounds_keep}

-- a node did not end without a configuration of its own
record EndsOnOwnState (p : PlainProgress) : Type 0 where
  differs : p.ending ≢ Some (Fault Differs)
  unknown : p.ending ≢ Some (Fault Unknown)

-- the node of a program has a configuration, with this program
record IsShown (states : List Conf) (p : Parts) : Type 0 where
  conf : NodeState
  there : find_conf (component.Node p.node) states ≡ Some (Node conf)
  same : conf.program ≡ p

node_of_some : (c : Conf) (d : NodeState) → Some c ≡ Some (Node d) → c ≡ Node d
node_of_some c d h = cc

-- a step of a node keeps its program
step_shows : (e : PlainEntry) (next : List Conf) (p : Parts) (c : NodeState) (d : Conf) → c.program ≡ p → IsStep e (Node c) d → find_conf (component.Node p.node) next ≡ Some d → IsShown next p
step_shows e next p c (Node d) same h after = record { conf = d; there = after; same = h.program ∙ same }
step_shows e next p c (Queue q) same h after = absurd h

joint_shows : (e : PlainEntry) (old new : List Conf) (p : Parts) → IsJointStep IsStep e old new → IsShown old p → IsShown new p
joint_shows e old new p joint x = at_part (takes_part (component.Node p.node) e.action) refl
  where
    own : TakesStep IsStep e (component.Node p.node) old new → IsShown new p
    own t =
        let same_old : t.old ≡ Node x.conf = node_of_some t.old x.conf (sym t.before ∙ x.there) in
        step_shows e new p x.conf t.new x.same (subst (λ (c : Conf). IsStep e c t.new) same_old t.step_of) t.after

    at_part : (b : Bool) → takes_part (component.Node p.node) e.action ≡ b → IsShown new p
    at_part true part = own (joint.participants (component.Node p.node) part)
    at_part false part = record { conf = x.conf; there = joint.others (component.Node p.node) part ∙ x.there; same = x.same }

-- a turn keeps the node's program and ending, and meets another fault
KeepsNode : PlainProgress → Result (TurnEnd × PlainProgress) NodeFault → Type 0
KeepsNode p (Ok t) = (t.1.program ≡ p.program) × (t.1.ending ≡ p.ending)
KeepsNode p (Err f) = IsOnOwn (Fault f)

reached_keeps : (p : PlainProgress) (r : Result TurnResult TermFault) → KeepsNode p (reached p r)
unfolding KeepsNode
reached_keeps p (Ok r) = (refl, refl)
reached_keeps p (Err term.Undefined) = record { differs = λ h. absurd (cc); unknown = λ h. absurd (cc) }
reached_keeps p (Err term.Range) = record { differs = λ h. absurd (cc); unknown = λ h. absurd (cc) }
reached_keeps p (Err term.Memory) = record { differs = λ h. absurd (cc); unknown = λ h. absurd (cc) }

own_shows : (p : Parts) (c : NodeState) → length c.variables ≡ length c.program.automaton.variables → c.program ≡ p → shows_program p c ≡ true
own_shows p c valued same = rw (← same, valued) (nat_eq_equiv.refl (length c.program.automaton.variables))

turn_keeps : (s : List Conf) (p : PlainProgress) → IsJointState s → IsShown s p.program → KeepsNode p (turn_at s p)
turn_keeps s p state x =
    let own = own_shows p.program x.conf (state.nodes (component.Node p.program.node) x.conf x.there).valued x.same in
    rw (x.there, own) (reached_keeps p _)

-- a node among configurations that show its program, and whose ending is another
record IsOnOwnState (states : List Conf) (p : PlainProgress) : Type 0 where
  shown : IsShown states p.program
  ends : EndsOnOwnState p

ended_own : (p : PlainProgress) (e : Ending) → IsOnOwn e → EndsOnOwnState (with_ending e p)
ended_own p e own = record { differs = λ h. own.differs (cc); unknown = λ h. own.unknown (cc) }

-- a turn on such configurations, by what it comes to
turned_own : (s : List Conf) (p : PlainProgress) (t : TurnEnd × PlainProgress) → KeepsNode p (Ok t) → IsOnOwnState s p → IsOnOwnState s t.1
unfolding KeepsNode
turned_own s p t kept n = record {
  shown = subst (IsShown s) (sym kept.0) n.shown;
  ends = record { differs = λ h. n.ends.differs (sym kept.1 ∙ h); unknown = λ h. n.ends.unknown (sym kept.1 ∙ h) };
}

failed_own : (s : List Conf) (p : PlainProgress) (f : NodeFault) → KeepsNode p (Err f) → IsOnOwnState s p → IsOnOwnState s (record p { ending = Some (Fault f) })
unfolding KeepsNode
failed_own s p f kept n = record { shown = n.shown; ends = ended_own p (Fault f) kept }

own_kept : AreKept IsJointState IsOnOwnState
own_kept = record {
  step = λ e s t k h. joint_state_after e s t k (is_joint_step e s t k h).0;
  beside = λ e s t p k h n. record { shown = joint_shows e s t p.program (is_joint_step e s t k h).0 n.shown; ends = n.ends };
  turn = λ s p t k n h. turned_own s p t (rw h at (turn_keeps s p k n.shown)) n;
  fault = λ s p f k n h. failed_own s p f (rw h at (turn_keeps s p k n.shown)) n;
  past = λ s p n. record { shown = n.shown; ends = record { differs = n.ends.differs; unknown = n.ends.unknown } };
  used = λ s p m n. record { shown = n.shown; ends = record { differs = n.ends.differs; unknown = n.ends.unknown } };
  ended = λ s p e own n. record { shown = n.shown; ends = ended_own p e own };
}

-- before the run each node is on its own state
start_own : (attempts : ℕ) (states : List Conf) (programs : List Parts) → AllByRecursion (StartsInitial states) programs → AllByRecursion (IsOnOwnState states) (map (progress_at attempts) programs)
start_own attempts states [] h = tt
start_own attempts states (p ∷ more) h =
    (record { shown = record { conf = node_state p p.initial; there = h.0; same = refl }; ends = record { differs = λ e. absurd (cc); unknown = λ e. absurd (cc) } }, start_own attempts states more h.1)

all_end : (states : List Conf) (F : PlainProgress → Type 0) → ((p : PlainProgress) → EndsOnOwnState p → F p) → (ps : List PlainProgress) → AllByRecursion (IsOnOwnState states) ps → AllByRecursion F ps
all_end states F told [] h = tt
all_end states F told (p ∷ more) h = (told p h.0.ends, all_end states F told more h.1)

-- no node of the whole run ends without a configuration of its own
solo_all : (s : SystemParts) (attempts limit : ℕ) → IsWellDeclared s → AllByRecursion (IsOnOwnState (solo s attempts limit).0.states) (solo s attempts limit).1
solo_all s attempts limit w =
    (rounds_keep IsJointState IsOnOwnState own_kept limit (attempts + 1) _ _ (start_state s w) (start_own attempts (start s) s.programs (is_start s w).nodes)).1

pub solo_own : (s : SystemParts) (attempts limit : ℕ) → IsWellDeclared s → AllByRecursion (λ p. p.ending ≢ Some (Fault Differs)) (solo s attempts limit).1
solo_own s attempts limit w =
    all_end (solo s attempts limit).0.states (λ p. p.ending ≢ Some (Fault Differs)) (λ p e. e.differs) (solo s attempts limit).1 (solo_all s attempts limit w)

pub solo_there : (s : SystemParts) (attempts limit : ℕ) → IsWellDeclared s → AllByRecursion (λ p. p.ending ≢ Some (Fault Unknown)) (solo s attempts limit).1
solo_there s attempts limit w =
    all_end (solo s attempts limit).0.states (λ p. p.ending ≢ Some (Fault Unknown)) (λ p e. e.unknown) (solo s attempts limit).1 (solo_all s attempts limit w)
