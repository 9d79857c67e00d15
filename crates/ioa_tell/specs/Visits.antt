-- Visits of nodes, round by round, of which none is left out, and none is told that need not have been (profile).
use Rattle.std.specs.Prelude.{◌≡◌, ◌⊎◌, ℕ, ◌+◌, ◌<◌, nat_lt, if◌then◌else◌, Bool, true}
use Rattle.std.specs.Prelude.{List, [], ◌∷◌, ◌++◌, length, Some, None, slice_get, slice_set}
use Rattle.std.specs.Option.{unwrap_or}
use Rattle.ioa_transitions.specs.Entries.{PlainEntry}
use Rattle.ioa_compose.specs.declared.configuration.Conf.{Conf}
use Rattle.ioa_record.specs.declared.ending.Ending.{Ending}
use Rattle.ioa_record.specs.declared.ending.Ending.TheVariants.{Fault}
use Rattle.ioa_record.specs.declared.ending.NodeFault.TheVariants.{Memory}
use Rattle.ioa_turns.specs.NodeTurns.{PlainProgress}
use Rattle.ioa_tell.specs.Attempts.{IsVisit, stops_without}
use Rattle.ioa_tell.specs.Marks.{Mark, entries_in}

-- nodes on their way, and where the one stands whose turn it is
pub record PlainRound : Type 0 where
  pub turn : ℕ
  pub nodes : List PlainProgress

-- whose turn it is behind that one, among so many: the next one's, or the first one's
abbrev pub next_turn : ℕ → ℕ → ℕ
next_turn count k = if nat_lt (k + 1) count then k + 1 else 0

-- the same once the node whose turn it was has come so far
abbrev pub round_after : PlainRound → PlainProgress → PlainRound
round_after r p = record { turn = next_turn (length r.nodes) r.turn; nodes = slice_set r.nodes r.turn p }

-- some node that has no ending came to one before memory ran out, by the endings that are recorded
pub record IsUnderWay (endings : List Ending) (ps : List PlainProgress) : Type 0 where
  pub position : ℕ
  pub node : PlainProgress
  pub there : slice_get ps position ≡ Some node
  pub without : node.ending ≡ None
  pub not_memory : slice_get endings position ≡ Some (Fault Memory) → ⊥

-- the run went on behind these entries for sure: more are recorded, or a node came to an ending of its own
abbrev pub IsDue : ℕ → List Ending → List PlainEntry → List PlainProgress → Type 0
IsDue count endings log ps = (length log < count) ⊎ IsUnderWay endings ps

-- a visit: how far its node has come after it, and what is told of it
pub record PlainVisit : Type 0 where
  pub after : PlainProgress
  pub did : List Mark

-- what is told of visits
abbrev pub marks_in : List PlainVisit → List Mark
marks_in [] = []
marks_in (v ∷ more) = v.did ++ marks_in more

-- a visit of the node whose turn it is, after these entries of a schedule, behind which the run went on for sure
pub record IsVisitOf (start : List Conf) (schedule : List PlainEntry) (endings : List Ending) (log : List PlainEntry)
    (r : PlainRound) (v : PlainVisit) : Type 0 where
  pub due : IsDue (length schedule) endings log r.nodes
  pub before : PlainProgress
  pub there : slice_get r.nodes r.turn ≡ Some before
  pub visit : IsVisit start schedule log before v.after v.did

-- visits, one after another, which leave the nodes so: each goes on from what the last one left, and each node from
-- where it stood
abbrev pub AreVisits : List Conf → List PlainEntry → List Ending → List PlainEntry → PlainRound → List PlainVisit
    → PlainRound → Type 0
AreVisits start schedule endings log r [] s = r ≡ s
AreVisits start schedule endings log r (v ∷ more) s =
    IsVisitOf start schedule endings log r v
    × AreVisits start schedule endings (log ++ entries_in v.did) (round_after r v.after) more s

-- nodes that were visited, of which this was told
pub record AreVisited (start : List Conf) (schedule : List PlainEntry) (endings : List Ending) (log : List PlainEntry)
    (r s : PlainRound) (marks : List Mark) : Type 0 where
  pub visits : List PlainVisit
  pub are : AreVisits start schedule endings log r visits s
  pub all : marks_in visits ≡ marks

-- nodes that were visited in order, the first one first, and of which it is the first one's turn again, if so
pub record AreGoneRound (whole : Bool) (start : List Conf) (schedule : List PlainEntry) (endings : List Ending)
    (log : List PlainEntry) (ps qs : List PlainProgress) (marks : List Mark) : Type 0 where
  pub turn : ℕ
  pub first : whole ≡ true → turn ≡ 0
  pub visited : AreVisited start schedule endings log (record { turn = 0; nodes = ps })
      (record { turn = turn; nodes = qs }) marks

-- how a node has ended: one that has no ending was under way when memory ran out
abbrev pub ended_as : PlainProgress → Ending
ended_as p = unwrap_or p.ending (Fault Memory)

-- what is told of nodes once no visit is left to be told: that those stop that have no ending, the first one first
abbrev pub cut_off : List PlainProgress → List Mark
cut_off [] = []
cut_off (p ∷ more) = stops_without p ++ cut_off more
