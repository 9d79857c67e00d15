-- Runs come to an end: after one round more than a node has attempts, each node has an ending.
use Rattle.std.proofs.Common.{◌≡◌, ◌⊎◌, inl, inr, refl, sym, subst, ℕ, zero, suc, ◌+◌, ◌-◌, ◌<◌, List, [], ◌∷◌, ◌++◌, length, take, drop, map, Bool, true, false, Some, None, arith}
use Rattle.std.specs.Prelude.{is_some, nat_eq, if◌then◌else◌, Option, Result, Ok, Err}
use Rattle.std.specs.List.{list_all, AllByRecursion}
use Rattle.std.proofs.lemmas.List.{append-nil, drop_all, take_all}
use Rattle.std.specs.Cmp.Derive.{both_true}
use Rattle.ioa_transitions.specs.Entries.{PlainEntry}
use Rattle.ioa_actions.specs.declared.component.Component.TheVariants as component
use Rattle.ioa_operators.specs.declared.fault.TermFault.{TermFault}
use Rattle.ioa_terms.specs.Inboxes.{PlainInboxes}
use Rattle.ioa_compose.specs.Composition.{find_conf}
use Rattle.ioa_compose.specs.declared.configuration.Conf.{Conf}
use Rattle.ioa_compose.specs.declared.configuration.Conf.TheVariants.{Node, Queue}
use Rattle.ioa_compose.specs.Start.{start}
use Rattle.ioa_system.specs.Parts.{Parts}
use Rattle.ioa_system.specs.Systems.{SystemParts}
use Rattle.ioa_record.specs.declared.ending.Ending.{Ending}
use Rattle.ioa_record.specs.declared.ending.NodeFault.{NodeFault}
use Rattle.ioa_record.specs.declared.ending.NodeFault.TheVariants.{Differs}
use Rattle.ioa_record.specs.declared.record.Record.{Record}
use Rattle.ioa_record.specs.Options.{PlainOptions}
use Rattle.ioa_turns.specs.Fired.{action_fired}
use Rattle.ioa_solo.specs.Attempts.{PlainFireOutcome, missed, taken, fire_answer}
use Rattle.ioa_schedules.specs.Turns.{TurnEnd, TurnResult, fires, idle, done}
use Rattle.ioa_turns.specs.Inboxes.{inboxes_seen}
use Rattle.ioa_turns.specs.NodeTurns.{PlainProgress, progress_at, reached, block_turn, shows_program, turn_on, turn_at}
use Rattle.ioa_solo.specs.Solo.{PlainCourse, after_fire, after_end, after_turn, visit, visit_unless_ended, round, rounds, solo, has_ended, ending_of, course_in, IsCutShort, IsLeftBy, IsSoloCut, IsSoloRun}

-- a node has an ending, or fewer attempts left than there are rounds
abbrev pub IsNear : ℕ → PlainProgress → Type 0
IsNear n p = (is_some p.ending ≡ true) ⊎ (p.attempts < n)

fire_near : (n : ℕ) (r : Result PlainFireOutcome NodeFault) (s : PlainCourse) (p : PlainProgress) → p.attempts < n → IsNear n (after_fire r s p).1
fire_near n (Ok missed) s p h = inr h
fire_near n (Ok (taken e next)) s p h = inr h
fire_near n (Err f) s p h = inl refl

end_near : (limit n : ℕ) (s : PlainCourse) (p : PlainProgress) (e : TurnEnd) → p.attempts < n → IsNear n (after_end limit s p e).1
end_near limit n s p done h = inl refl
end_near limit n s p idle h = inr h
end_near limit n s p (fires k w vs) h =
    fire_near n (fire_answer limit s.schedule s.states p.program.node (action_fired p.program w vs)) s p h

-- a turn uses no attempt
unfoldable pub KeepsAttempts : ℕ → Result (TurnEnd × PlainProgress) NodeFault → Type 0
KeepsAttempts n (Ok t) = t.1.attempts ≡ n
KeepsAttempts n (Err f) = Unit {0}

reached_keeps : (p : PlainProgress) (r : Result TurnResult TermFault) → KeepsAttempts p.attempts (reached p r)
unfolding KeepsAttempts
reached_keeps p (Ok r) = refl
reached_keeps p (Err f) = tt

pub turn_keeps : (p : PlainProgress) (inboxes : Option PlainInboxes) (o : Option Conf) → KeepsAttempts p.attempts (turn_on p inboxes o)
unfolding KeepsAttempts
turn_keeps p inboxes None = tt
turn_keeps p inboxes (Some (Queue q)) = tt
turn_keeps p inboxes (Some (Node c)) = by_program (shows_program p.program c)
  where
    by_program : (b : Bool) → KeepsAttempts p.attempts (if b then block_turn p inboxes c.variables else Err Differs)
    by_program true = reached_keeps p _
    by_program false = tt

turn_near : (limit n k : ℕ) (s : PlainCourse) (p : PlainProgress) (r : Result (TurnEnd × PlainProgress) NodeFault) → KeepsAttempts k r → k < n → IsNear n (after_turn limit s p r).1
unfolding KeepsAttempts
turn_near limit n k s p (Ok t) same h = end_near limit n s t.1 t.0 (rw same h)
turn_near limit n k s p (Err f) same h = inl refl

visit_near : (limit n : ℕ) (s : PlainCourse) (p : PlainProgress) → p.attempts < suc n → IsNear n (visit limit s p).1
visit_near limit n s p h = by_test (nat_eq p.attempts 0) refl
  where
    less : (k : ℕ) → nat_eq k 0 ≡ false → k < suc n → k - 1 < n
    less zero e h = absurd (cc)
    less (suc k) e h = omega (arith, h)

    by_test : (b : Bool) → nat_eq p.attempts 0 ≡ b → IsNear n (visit limit s p).1
    by_test true e = rw e (inl refl)
    by_test false e =
        let used = record p { attempts = p.attempts - 1 } in
        rw e (turn_near limit n used.attempts s used (turn_at s.states used) (turn_keeps used (inboxes_seen p.program s.states) (find_conf (component.Node p.program.node) s.states)) (less p.attempts e h))

one_near : (limit n : ℕ) (s : PlainCourse) (p : PlainProgress) → IsNear (suc n) p → IsNear n (visit_unless_ended limit s p).1
one_near limit n s p h = by_ending (is_some p.ending) refl h
  where
    by_ending : (b : Bool) → is_some p.ending ≡ b → IsNear (suc n) p → IsNear n (visit_unless_ended limit s p).1
    by_ending true e near = rw e (inl e)
    by_ending false e (inl ended) = absurd (cc)
    by_ending false e (inr less) = rw e (visit_near limit n s p less)

round_near : (limit n : ℕ) (s : PlainCourse) (ps : List PlainProgress) → AllByRecursion (IsNear (suc n)) ps → AllByRecursion (IsNear n) (round limit s ps).1
round_near limit n s [] near = tt
round_near limit n s (p ∷ more) near =
    (one_near limit n s p near.0, round_near limit n (visit_unless_ended limit s p).0 more near.1)

none_near : (ps : List PlainProgress) → AllByRecursion (IsNear zero) ps → list_all has_ended ps ≡ true
none_near [] near = refl
none_near (p ∷ more) near = both_true (ended near.0) (none_near more near.1)
  where
    ended : IsNear zero p → is_some p.ending ≡ true
    ended (inl e) = e
    ended (inr less) = absurd (omega (arith, less))

rounds_near : (limit n : ℕ) (s : PlainCourse) (ps : List PlainProgress) → AllByRecursion (IsNear n) ps → list_all has_ended (rounds limit n s ps).1 ≡ true
unfolding rounds
rounds_near limit zero s ps near = none_near ps near
rounds_near limit (suc n) s ps near = rounds_near limit n (round limit s ps).0 (round limit s ps).1 (round_near limit n s ps near)

start_near : (attempts : ℕ) (programs : List Parts) → AllByRecursion (IsNear (attempts + 1)) (map (progress_at attempts) programs)
start_near attempts [] = tt
start_near attempts (q ∷ more) = (inr (omega arith), start_near attempts more)

-- each node of a run has an ending
pub solo_ends : (s : SystemParts) (attempts limit : ℕ) → list_all has_ended (solo s attempts limit).1 ≡ true
solo_ends s attempts limit = rounds_near limit (attempts + 1) _ _ (start_near attempts s.programs)

-- the endings that are told of nodes that have one are theirs
pub told_endings : (ps : List PlainProgress) → list_all has_ended ps ≡ true → map Some (map ending_of ps) ≡ map (λ p. p.ending) ps
told_endings [] all = refl
told_endings (p ∷ more) all = by_ending p.ending refl (λ h. told_endings more h)
  where
    by_ending : (o : Option Ending) → p.ending ≡ o → (list_all has_ended more ≡ true → map Some (map ending_of more) ≡ map (λ p. p.ending) more) →
        map Some (map ending_of (p ∷ more)) ≡ map (λ p. p.ending) (p ∷ more)
    by_ending (Some ending) e others =
        let same = others (rw e at all) in
        rw (e, same) refl
    by_ending None e others =
        let no : false ≡ true = rw e at all in
        absurd (cc)

-- a record of what the rounds of a run leave tells that run
pub solo_run : (s : SystemParts) (o : PlainOptions) (t : PlainCourse) (ps : List PlainProgress) (r : Record) (endings : List Ending) →
    IsSoloCut s o.attempts o.steps t (map ending_of ps) ⊎ ((t, ps) ≡ solo s o.attempts o.steps) →
    r.schedule ≡ t.schedule → r.states.items ≡ t.states → endings ≡ map ending_of ps → IsSoloRun s o r endings
solo_run s o t ps r endings (inl short) schedule states each =
    let same : t ≡ course_in r = λ j. record { schedule = sym schedule j; states = sym states j } in
    inl
    (subst (λ (c : PlainCourse). IsSoloCut s o.attempts o.steps c endings) same
    (subst (λ (es : List Ending). IsSoloCut s o.attempts o.steps t es) (sym each) short))
solo_run s o t ps r endings (inr e) schedule states each =
    let all = subst (λ (left : PlainCourse × List PlainProgress). list_all has_ended left.1 ≡ true) (sym e) (solo_ends s o.attempts o.steps) in
    inr (subst (λ (left : PlainCourse × List PlainProgress). IsLeftBy left r endings) e
    (record { schedule = schedule; states = states; each = rw each (told_endings ps all) }))

-- the same of rounds from the beginning of a run
pub solo_from : (s : SystemParts) (o : PlainOptions) (entries : List PlainEntry) (states : List Conf) (from : List PlainProgress) (t : PlainCourse) (ps : List PlainProgress) (r : Record) (endings : List Ending) →
    IsCutShort o.steps (o.attempts + 1) (record { schedule = entries; states = states }) from t (map ending_of ps)
    ⊎ ((t, ps) ≡ rounds o.steps (o.attempts + 1) (record { schedule = entries; states = states }) from) →
    entries ≡ [] → states ≡ start s → from ≡ map (progress_at o.attempts) s.programs →
    r.schedule ≡ t.schedule → r.states.items ≡ t.states → endings ≡ map ending_of ps → IsSoloRun s o r endings
solo_from s o entries states from t ps r endings h none begun nodes schedule ended each =
    solo_run s o t ps r endings (rw (none, begun, nodes) at h) schedule ended each

-- a list that was written as a slice is that slice
pub all_written : {A : Type 0} (n : ℕ) (new old : List A) → length new ≡ length old → n ≡ length old → take n (new ++ drop (length new) old) ≡ new
all_written n new old same whole =
    rw (drop_all (length new) old (omega (arith, same)), append-nil new) (take_all n new (omega (arith, same, whole)))
