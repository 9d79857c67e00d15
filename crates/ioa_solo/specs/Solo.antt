-- *Solo* (profile): the run by one worker, who goes round the nodes in order until each has an ending.
use Rattle.std.specs.Prelude.{◌≡◌, ◌⊎◌, ℕ, zero, suc, ◌+◌, ◌-◌, ◌<◌, nat_eq, if◌then◌else◌, Bool, not}
use Rattle.std.specs.Prelude.{List, [], ◌∷◌, ◌++◌, drop, map, slice_get, take, None, Some, is_some, Result, Ok, Err}
use Rattle.std.specs.Option.{unwrap_or}
use Rattle.ioa_transitions.specs.Entries.{PlainEntry}
use Rattle.ioa_commits.specs.Books.{PlainBook, states_held}
use Rattle.ioa_compose.specs.declared.configuration.Conf.{Conf}
use Rattle.ioa_compose.specs.Start.{start}
use Rattle.ioa_system.specs.Systems.{SystemParts}
use Rattle.ioa_record.specs.declared.ending.Ending.{Ending}
use Rattle.ioa_record.specs.declared.ending.Ending.TheVariants.{Done, Spent, Fault}
use Rattle.ioa_record.specs.declared.ending.NodeFault.{NodeFault}
use Rattle.ioa_record.specs.declared.ending.NodeFault.TheVariants as fault
use Rattle.ioa_record.specs.declared.record.Record.{Record}
use Rattle.ioa_record.specs.Options.{PlainOptions}
use Rattle.ioa_schedules.specs.Turns.{TurnEnd, fires, idle, done}
use Rattle.ioa_turns.specs.Fired.{action_fired}
use Rattle.ioa_turns.specs.NodeTurns.{PlainProgress, past_fire, progress_at, turn_at, with_ending}
use Rattle.ioa_solo.specs.Attempts.{PlainFireOutcome, missed, taken, fire_answer}

-- a run under way: the schedule so far, and the configurations that it leads to
pub record PlainCourse : Type 0 where
  pub schedule : List PlainEntry
  pub states : List Conf

-- the run under way that a book of commits keeps
abbrev pub course_of : PlainBook → PlainCourse
course_of b = record { schedule = b.log; states = states_held b }

-- the run and its node after a fire: one that is missed or taken is passed, and the entry of a taken step is added to
-- the schedule; a fault ends the node
abbrev pub after_fire : Result PlainFireOutcome NodeFault → PlainCourse → PlainProgress → PlainCourse × PlainProgress
after_fire (Ok missed) s p = (s, past_fire p)
after_fire (Ok (taken e next)) s p = (record { schedule = s.schedule ++ e ∷ []; states = next }, past_fire p)
after_fire (Err f) s p = (s, with_ending (Fault f) p)

-- the run and its node after a turn that ends so: a block that is done ends its node, an idle one goes on in the next
-- attempt, and a fire is attempted
abbrev pub after_end : ℕ → PlainCourse → PlainProgress → TurnEnd → PlainCourse × PlainProgress
after_end limit s p done = (s, with_ending Done p)
after_end limit s p idle = (s, p)
after_end limit s p (fires k w vs) =
    after_fire (fire_answer limit s.schedule s.states p.program.node (action_fired p.program w vs)) s p

-- the same by the result of the turn: a fault ends the node where it stood
abbrev pub after_turn : ℕ → PlainCourse → PlainProgress → Result (TurnEnd × PlainProgress) NodeFault
    → PlainCourse × PlainProgress
after_turn limit s p (Ok t) = after_end limit s t.1 t.0
after_turn limit s p (Err f) = (s, with_ending (Fault f) p)

-- an attempt of a node: its turn on the present configurations, and what follows from that
abbrev pub attempt : ℕ → PlainCourse → PlainProgress → PlainCourse × PlainProgress
attempt limit s p = after_turn limit s p (turn_at s.states p)

-- a visit of a node that has no ending: it is spent if no attempt is left, else one is used
abbrev pub visit : ℕ → PlainCourse → PlainProgress → PlainCourse × PlainProgress
visit limit s p =
    if nat_eq p.attempts 0 then (s, with_ending Spent p) else attempt limit s (record p { attempts = p.attempts - 1 })

-- a node that has an ending is not visited again
abbrev pub visit_unless_ended : ℕ → PlainCourse → PlainProgress → PlainCourse × PlainProgress
visit_unless_ended limit s p = if is_some p.ending then (s, p) else visit limit s p

-- a node, and then the others on the run that it left
abbrev pub then_others : PlainCourse × PlainProgress → (PlainCourse → PlainCourse × List PlainProgress)
    → PlainCourse × List PlainProgress
then_others first others = ((others first.0).0, first.1 ∷ (others first.0).1)

-- one round of the nodes, in order
abbrev pub round : ℕ → PlainCourse → List PlainProgress → PlainCourse × List PlainProgress
round limit s [] = (s, [])
round limit s (p ∷ more) = then_others (visit_unless_ended limit s p) (λ t. round limit t more)

-- n further rounds
unfoldable pub rounds : ℕ → ℕ → PlainCourse → List PlainProgress → PlainCourse × List PlainProgress
rounds limit zero s ps = (s, ps)
rounds limit (suc n) s ps = rounds limit n (round limit s ps).0 (round limit s ps).1

-- a run of a system before its first step
abbrev pub solo_begin : SystemParts → PlainCourse
solo_begin s = record { schedule = []; states = start s }

-- the whole run: a node uses an attempt each round, and the round after its last attempt ends it
abbrev pub solo : SystemParts → ℕ → ℕ → PlainCourse × List PlainProgress
solo s attempts limit = rounds limit (attempts + 1) (solo_begin s) (map (progress_at attempts) s.programs)

-- whether a node has an ending
abbrev pub has_ended : PlainProgress → Bool
has_ended p = is_some p.ending

-- whether a node has none
abbrev pub is_under_way : PlainProgress → Bool
is_under_way p = not (has_ended p)

-- the ending that is reported of a node
abbrev pub ending_of : PlainProgress → Ending
ending_of p = unwrap_or p.ending Spent

-- a node that a fault ends, and that fault is not want of memory
abbrev pub IsEndedBy : NodeFault → PlainProgress → PlainProgress → Type 0
IsEndedBy f old new = (f ≡ fault.Memory → ⊥) × (new ≡ with_ending (Fault f) old)

-- a node that ends for want of memory, if it has no ending yet
abbrev pub short_of_memory : PlainProgress → PlainProgress
short_of_memory p = if is_some p.ending then p else with_ending (Fault fault.Memory) p

-- the ending that is reported of a node once memory has run out: its own, if it has one
abbrev pub ending_then : PlainProgress → Ending
ending_then p = unwrap_or p.ending (Fault fault.Memory)

-- a record and a list of endings hold what a run leaves: the schedule, the configurations, and the ending of each
-- node, which each node has
pub record IsLeftBy (left : PlainCourse × List PlainProgress) (r : Record) (endings : List Ending) : Type 0 where
  pub schedule : r.schedule ≡ left.0.schedule
  pub states : r.states.items ≡ left.0.states
  pub each : map Some endings ≡ map (λ p. p.ending) left.1

-- a schedule is a beginning of that of a run: the run goes on from it
pub record Begins (schedule : List PlainEntry) (s : PlainCourse) : Type 0 where
  pub rest : List PlainEntry
  pub whole : s.schedule ≡ schedule ++ rest

-- a round of which only the first m visits are made: the other nodes are as they were
abbrev pub first_visits : ℕ → ℕ → PlainCourse → List PlainProgress → PlainCourse × List PlainProgress
first_visits limit m s ps = ((round limit s (take m ps)).0, (round limit s (take m ps)).1 ++ drop m ps)

-- memory ran out in visit m of a round, before which the run and its nodes were these: the visit of a node that had no
-- ending. The run is left as it was there, and so is each node that had an ending; all others end for want of memory
pub record IsCutAt (m : ℕ) (there : PlainCourse × List PlainProgress) (left : PlainCourse) (endings : List Ending)
    : Type 0 where
  pub node : PlainProgress
  pub visited : slice_get there.1 m ≡ Some node
  pub under_way : node.ending ≡ None
  pub course : left ≡ there.0
  pub each : endings ≡ map ending_then there.1

-- the same in one of the visits of a round
pub record IsRoundCut (limit : ℕ) (s : PlainCourse) (ps : List PlainProgress) (left : PlainCourse)
    (endings : List Ending) : Type 0 where
  pub visits : ℕ
  pub cut : IsCutAt visits (first_visits limit visits s ps) left endings

-- the same in one of n rounds: the rounds before it are whole
pub record IsCutShort (limit n : ℕ) (s : PlainCourse) (ps : List PlainProgress) (left : PlainCourse)
    (endings : List Ending) : Type 0 where
  pub whole : ℕ
  pub within : whole < n
  pub cut : IsRoundCut limit (rounds limit whole s ps).0 (rounds limit whole s ps).1 left endings

-- memory cut the run by one worker short
abbrev pub IsSoloCut : SystemParts → ℕ → ℕ → PlainCourse → List Ending → Type 0
IsSoloCut s attempts limit left endings =
    IsCutShort limit (attempts + 1) (solo_begin s) (map (progress_at attempts) s.programs) left endings

-- what memory that ran out leaves of a whole run: the schedule is a beginning of that run's, an ending says that memory
-- ran out, and each other is the one that its node has at the end of that run
pub record IsBeginningOf (run : PlainCourse × List PlainProgress) (left : PlainCourse) (endings : List Ending) : Type 0
  where
    pub begins : Begins left.schedule run.0
    pub at : ℕ
    pub short : slice_get endings at ≡ Some (Fault fault.Memory)
    pub each : (i : ℕ) (e : Ending) (p : PlainProgress) → slice_get endings i ≡ Some e → slice_get run.1 i ≡ Some p →
        (e ≡ Fault fault.Memory) ⊎ (p.ending ≡ Some e)

-- the run under way that a record keeps
abbrev pub course_in : Record → PlainCourse
course_in r = record { schedule = r.schedule; states = r.states.items }

-- a record and endings are those of the worker's own run, or memory cut that run short
abbrev pub IsSoloRun : SystemParts → PlainOptions → Record → List Ending → Type 0
IsSoloRun s o r endings =
    IsSoloCut s o.attempts o.steps (course_in r) endings ⊎ IsLeftBy (solo s o.attempts o.steps) r endings
