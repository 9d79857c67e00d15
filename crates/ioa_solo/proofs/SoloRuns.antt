-- The run that is defined apart from the code replays from the start, and more rounds change nothing.
use Rattle.std.proofs.Common.{◌≡◌, ℕ, ℤ, zero, suc, ◌+◌, ◌-◌, ◌<◌, Bool, true, false, List, [], ◌∷◌, refl, arith}
use Rattle.std.specs.Prelude.{is_some, nat_eq, nat_lt, Result, Ok, Err, length, if◌then◌else◌}
use Rattle.std.specs.Ordering.{int_eq}
use Rattle.std.proofs.lemmas.Bool.{ltb-true}
use Rattle.ioa_actions.specs.ActionParts.{node_of}
use Rattle.ioa_actions.specs.declared.action.Action.{Action}
use Rattle.ioa_compose.specs.declared.configuration.Conf.{Conf}
use Rattle.ioa_actions.specs.declared.fault.StepFault.{StepFault}
use Rattle.ioa_actions.specs.declared.fault.StepFault.TheVariants as step
use Rattle.ioa_transitions.specs.Entries.{PlainEntry}
use Rattle.ioa_compose.specs.Composition.{joint_answer, joint_pick}
use Rattle.ioa_compose.proofs.Picks.{joint_pick-entry}
use Rattle.ioa_compose.specs.Start.{start}
use Rattle.ioa_system.specs.Systems.{SystemParts}
use Rattle.ioa_record.specs.declared.ending.NodeFault.{NodeFault}
use Rattle.ioa_record.specs.declared.ending.NodeFault.TheVariants.{NotMine, Full}
use Rattle.ioa_schedules.specs.Turns.{TurnEnd, fires, idle, done}
use Rattle.ioa_turns.specs.Fired.{action_fired}
use Rattle.ioa_solo.specs.Attempts.{PlainFireOutcome, missed, taken, fire_answer, step_outcome}
use Rattle.ioa_turns.specs.NodeTurns.{PlainProgress, turn_at}
use Rattle.ioa_record.specs.Recorded.{ReplaysWithin}
use Rattle.ioa_record.proofs.Runs.{ReplaysWithin-push}
use Rattle.ioa_solo.specs.Solo.{PlainCourse, after_fire, after_end, after_turn, visit, visit_unless_ended, round, rounds, solo}
use Rattle.ioa_solo.proofs.Rounds.{rounds_ended}
use Rattle.ioa_solo.proofs.Termination.{solo_ends}

-- a run under way replays from some configurations, within the limit
abbrev Replays : ℕ → List Conf → PlainCourse → Type 0
Replays limit from s = ReplaysWithin limit from s.schedule s.states

-- what a fire takes is a step, for which there is room
IsRoomyStep : ℕ → PlainCourse → Result PlainFireOutcome NodeFault → Type 0
IsRoomyStep limit s (Ok missed) = Unit {0}
IsRoomyStep limit s (Ok (taken e next)) = (joint_answer e s.states ≡ Ok next) × (length s.schedule < limit)
IsRoomyStep limit s (Err f) = Unit {0}

step_roomy : (limit : ℕ) (s : PlainCourse) (a : Action) (r : Result (PlainEntry × List Conf) StepFault) → joint_pick a s.states ≡ r → IsRoomyStep limit s (step_outcome limit s.schedule r)
unfolding IsRoomyStep
step_roomy limit s a (Ok t) e = by_room (nat_lt (length s.schedule) limit) refl
  where
    by_room : (b : Bool) → nat_lt (length s.schedule) limit ≡ b → IsRoomyStep limit s (if b then Ok (taken t.0 t.1) else Err Full)
    by_room true room = ((joint_pick-entry a s.states t.0 t.1 e).1, ltb-true (length s.schedule) limit room)
    by_room false room = tt
step_roomy limit s a (Err step.NotEnabled) e = tt
step_roomy limit s a (Err step.Undefined) e = tt
step_roomy limit s a (Err step.Range) e = tt
step_roomy limit s a (Err step.Memory) e = tt
step_roomy limit s a (Err step.NotMine) e = tt
step_roomy limit s a (Err step.NoChannel) e = tt
step_roomy limit s a (Err step.NoChoice) e = tt

fire_roomy : (limit : ℕ) (s : PlainCourse) (k : ℤ) (a : Action) → IsRoomyStep limit s (fire_answer limit s.schedule s.states k a)
unfolding IsRoomyStep
fire_roomy limit s k a = by_node (int_eq (node_of a) k)
  where
    by_node : (b : Bool) → IsRoomyStep limit s (if b then step_outcome limit s.schedule (joint_pick a s.states) else Err NotMine)
    by_node true = step_roomy limit s a (joint_pick a s.states) refl
    by_node false = tt

fire_replays : (limit : ℕ) (from : List Conf) (r : Result PlainFireOutcome NodeFault) (s : PlainCourse) (p : PlainProgress) → IsRoomyStep limit s r → Replays limit from s → Replays limit from (after_fire r s p).0
unfolding IsRoomyStep
fire_replays limit from (Ok missed) s p room h = h
fire_replays limit from (Ok (taken e next)) s p room h = ReplaysWithin-push limit from s.schedule e s.states next h room.0 room.1
fire_replays limit from (Err f) s p room h = h

end_replays : (limit : ℕ) (from : List Conf) (s : PlainCourse) (p : PlainProgress) (e : TurnEnd) → Replays limit from s → Replays limit from (after_end limit s p e).0
end_replays limit from s p done h = h
end_replays limit from s p idle h = h
end_replays limit from s p (fires k w vs) h =
    fire_replays limit from (fire_answer limit s.schedule s.states p.program.node (action_fired p.program w vs)) s p (fire_roomy limit s p.program.node (action_fired p.program w vs)) h

turn_replays : (limit : ℕ) (from : List Conf) (s : PlainCourse) (p : PlainProgress) (r : Result (TurnEnd × PlainProgress) NodeFault) → Replays limit from s → Replays limit from (after_turn limit s p r).0
turn_replays limit from s p (Ok t) h = end_replays limit from s t.1 t.0 h
turn_replays limit from s p (Err f) h = h

visit_replays : (limit : ℕ) (from : List Conf) (s : PlainCourse) (p : PlainProgress) → Replays limit from s → Replays limit from (visit_unless_ended limit s p).0
visit_replays limit from s p h = by_ending (is_some p.ending) refl
  where
    by_attempts : (b : Bool) → nat_eq p.attempts 0 ≡ b → Replays limit from (visit limit s p).0
    by_attempts true e = rw e h
    by_attempts false e =
        let used = record p { attempts = p.attempts - 1 } in
        rw e (turn_replays limit from s used (turn_at s.states used) h)

    by_ending : (b : Bool) → is_some p.ending ≡ b → Replays limit from (visit_unless_ended limit s p).0
    by_ending true e = rw e h
    by_ending false e = rw e (by_attempts (nat_eq p.attempts 0) refl)

round_replays : (limit : ℕ) (from : List Conf) (s : PlainCourse) (ps : List PlainProgress) → Replays limit from s → Replays limit from (round limit s ps).0
round_replays limit from s [] h = h
round_replays limit from s (p ∷ more) h = round_replays limit from (visit_unless_ended limit s p).0 more (visit_replays limit from s p h)

rounds_replay : (limit n : ℕ) (from : List Conf) (s : PlainCourse) (ps : List PlainProgress) → Replays limit from s → Replays limit from (rounds limit n s ps).0
unfolding rounds
rounds_replay limit zero from s ps h = h
rounds_replay limit (suc n) from s ps h = rounds_replay limit n from (round limit s ps).0 (round limit s ps).1 (round_replays limit from s ps h)

-- the whole run replays from the start
pub solo_replays : (s : SystemParts) (attempts limit : ℕ) → ReplaysWithin limit (start s) (solo s attempts limit).0.schedule (solo s attempts limit).0.states
solo_replays s attempts limit = rounds_replay limit (attempts + 1) (start s) _ _ (record { leads = refl; within = omega arith })

-- more rounds change nothing
pub solo_settled : (s : SystemParts) (attempts limit more : ℕ) → rounds limit more (solo s attempts limit).0 (solo s attempts limit).1 ≡ solo s attempts limit
solo_settled s attempts limit more = rounds_ended limit more (solo s attempts limit).0 (solo s attempts limit).1 (solo_ends s attempts limit)
