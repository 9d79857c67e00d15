-- Visits of nodes, one after another, and the whole run.
use Rattle.std.proofs.Common.{◌≡◌, ℕ, ◌+◌, ◌<◌, Bool, true, false, if◌then◌else◌, List, [], ◌∷◌, ◌++◌, get_or, map, length, drop, Some, None, add-one, drop-cons, refl, sym, ap, subst, ◌∙◌, append_assoc}
use Rattle.std.specs.Prelude.{nat_lt, slice_get, slice_set}
use Rattle.std.proofs.lemmas.Bool.{false≢true, lt-ltb, ltb-true}
use Rattle.std.proofs.lemmas.List.{append-nil, length-map, length-set, map-set}
use Rattle.std.proofs.lemmas.Option.{slice_get-get_or, slice_get-map}
use Rattle.std.specs.Option.{option_map}
use Rattle.ioa_commits.specs.Books.{PlainBook}
use Rattle.ioa_compose.specs.Start.{start}
use Rattle.ioa_compose.specs.declared.configuration.Conf.{Conf}
use Rattle.ioa_record.specs.declared.ending.Ending.{Ending}
use Rattle.ioa_record.specs.declared.ending.Ending.TheVariants.{Fault}
use Rattle.ioa_record.specs.declared.ending.NodeFault.TheVariants.{Memory}
use Rattle.ioa_system.specs.Systems.{SystemParts}
use Rattle.ioa_transitions.specs.Entries.{PlainEntry}
use Rattle.ioa_turns.specs.NodeTurns.{PlainProgress, progress_at}
use Rattle.ioa_tell.specs.Attempts.{IsVisit, stops_without}
use Rattle.ioa_tell.specs.Events.{PlainEvent}
use Rattle.ioa_tell.specs.Marks as mark
use Rattle.ioa_tell.specs.Marks.{Mark, entries_in}
use Rattle.ioa_tell.specs.Told.{AreHeard, AreTold, TellsOn, TellsRun, TellsSuch, endings_told, first_round}
use Rattle.ioa_tell.specs.Visits.{AreGoneRound, AreVisited, AreVisits, IsDue, IsUnderWay, PlainRound, PlainVisit, cut_off, ended_as, marks_in, round_after}
use Rattle.ioa_tell.proofs.Tellings.{heard_then, log_after, tells_beside, tells_further, tells_nothing}

entries_then : (xs ys : List Mark) → entries_in (xs ++ ys) ≡ entries_in xs ++ entries_in ys
entries_then [] ys = refl
entries_then (mark.took e ∷ xs) ys = ap (λ (es : List PlainEntry). e ∷ es) (entries_then xs ys)
entries_then (mark.missed a ∷ xs) ys = entries_then xs ys
entries_then (mark.waited n ∷ xs) ys = entries_then xs ys
entries_then (mark.stopped n ∷ xs) ys = entries_then xs ys

marks_in_then : (vs ws : List PlainVisit) → marks_in (vs ++ ws) ≡ marks_in vs ++ marks_in ws
marks_in_then [] ws = refl
marks_in_then (v ∷ vs) ws = ap (λ (ms : List Mark). v.did ++ ms) (marks_in_then vs ws) ∙ sym (append_assoc v.did (marks_in vs) (marks_in ws))

-- visits, and then further ones
visits_then : (start : List Conf) (schedule : List PlainEntry) (endings : List Ending) (log : List PlainEntry) (p q r : PlainRound) (vs ws : List PlainVisit) →
    AreVisits start schedule endings log p vs q → AreVisits start schedule endings (log ++ entries_in (marks_in vs)) q ws r → AreVisits start schedule endings log p (vs ++ ws) r
visits_then start schedule endings log p q r [] ws h g =
    subst (λ (l : List PlainEntry). AreVisits start schedule endings l p ws r) (append-nil log)
    (subst (λ (o : PlainRound). AreVisits start schedule endings (log ++ []) o ws r) (sym h) g)
visits_then start schedule endings log p q r (v ∷ vs) ws h g =
    let behind : log ++ entries_in (v.did ++ marks_in vs) ≡ (log ++ entries_in v.did) ++ entries_in (marks_in vs) =
    ap (λ (es : List PlainEntry). log ++ es) (entries_then v.did (marks_in vs)) ∙ sym (append_assoc log (entries_in v.did) (entries_in (marks_in vs))) in (
      h.0,
      visits_then start schedule endings (log ++ entries_in v.did) (round_after p v.after) q r vs ws h.1
          (subst (λ (l : List PlainEntry). AreVisits start schedule endings l q ws r) behind g),
    )

-- whose turn it is in a round of so many nodes once that many were visited
abbrev pub turn_behind : ℕ → ℕ → ℕ
turn_behind count k = if nat_lt k count then k else 0

in_any_case : (b : Bool) (n : ℕ) → n ≡ (if b then n else n)
in_any_case true n = refl
in_any_case false n = refl

turn_first : (count : ℕ) → 0 ≡ turn_behind count 0
turn_first count = in_any_case (nat_lt 0 count) 0

turn_within : (count k : ℕ) → k < count → turn_behind count k ≡ k
turn_within count k h = ap (λ (b : Bool). if b then k else 0) (lt-ltb k count h)

turn_over : (count k : ℕ) (b : Bool) → nat_lt k count ≡ b → (k < count → ⊥) → turn_behind count k ≡ 0
turn_over count k true is h = absurd (h (ltb-true k count is))
turn_over count k false is h = ap (λ (b : Bool). if b then k else 0) is

-- nodes in a round, of which that many were visited
abbrev pub round_of : {V : Type 0} → (V → PlainProgress) → List V → ℕ → PlainRound
round_of f nodes k = record { turn = turn_behind (length nodes) k; nodes = map f nodes }

module _ {S : Type 0} (hears : PlainEvent → S → S → Type 0) (endings : List Ending) where
  -- no node was visited
  pub visited_none : (b : PlainBook) (l : List PlainEntry) (x : S) (r s : PlainRound) → r ≡ s → TellsSuch hears b b l l x x (AreVisited b.start (b.log ++ l) endings b.log r s)
  visited_none b l x r s same = record { did = []; tells = tells_nothing hears b l x; is = record { visits = []; are = same; all = refl } }

  -- nor at the beginning of a round
  pub visited_first : {V : Type 0} (f : V → PlainProgress) (nodes : List V) (b : PlainBook) (l : List PlainEntry) (x : S) →
      TellsSuch hears b b l l x x (AreVisited b.start (b.log ++ l) endings b.log (record { turn = 0; nodes = map f nodes }) (round_of f nodes 0))
  visited_first f nodes b l x = visited_none b l x (record { turn = 0; nodes = map f nodes }) (round_of f nodes 0) (λ k. record { turn = turn_first (length nodes) k; nodes = map f nodes })

  -- one node was
  visited_one : {V : Type 0} (f : V → PlainProgress) (nodes : List V) (i : ℕ) (v w : V) (a b : PlainBook) (l m : List PlainEntry) (x y : S) → i < length nodes →
      IsDue (length (a.log ++ l)) endings a.log (map f nodes) →
      TellsSuch hears a b l m x y (IsVisit a.start (a.log ++ l) a.log (f (get_or nodes i v)) (f w)) →
      TellsSuch hears a b l m x y (AreVisited a.start (a.log ++ l) endings a.log (record { turn = i; nodes = map f nodes }) (round_of f (slice_set nodes i w) (i + 1)))
  visited_one {V} f nodes i v w a b l m x y within due h = record {
    did = h.did;
    tells = h.tells;
    is = record {
      visits = record { after = f w; did = h.did } ∷ [];
      are = (record { due = due; before = f (get_or nodes i v); there = there; visit = h.is }, (λ k. record { turn = turn_behind (counted k) (i + 1); nodes = sym (map-set f nodes i w) k }));
      all = append-nil h.did;
    };
  }
    where
      there : slice_get (map f nodes) i ≡ Some (f (get_or nodes i v))
      there = slice_get-map f nodes i ∙ ap (λ o. option_map f o) (slice_get-get_or nodes i v within)

      counted : length (map f nodes) ≡ length (slice_set nodes i w)
      counted = length-map nodes f ∙ sym (length-set nodes i w)

  -- some nodes were visited, and then more
  pub visited_further : (a b c : PlainBook) (l m o : List PlainEntry) (x y z : S) (p q r : PlainRound) → TellsSuch hears a b l m x y (AreVisited a.start (a.log ++ l) endings a.log p q) →
      TellsSuch hears b c m o y z (AreVisited b.start (b.log ++ m) endings b.log q r) → TellsSuch hears a c l o x z (AreVisited a.start (a.log ++ l) endings a.log p r)
  visited_further a b c l m o x y z p q r f g = record {
    did = f.did ++ g.did;
    tells = tells_further hears a b c l m o x y z f.tells g.tells;
    is = record {
      visits = f.is.visits ++ g.is.visits;
      are = visits_then a.start (a.log ++ l) endings a.log p q r f.is.visits g.is.visits f.is.are later;
      all = marks_in_then f.is.visits g.is.visits ∙ (λ i. f.is.all i ++ g.is.all i);
    };
  }
    where
      reached : b.log ≡ a.log ++ entries_in (marks_in f.is.visits)
      reached = log_after hears a b l m x y f.tells ∙ ap (λ (ms : List Mark). a.log ++ entries_in ms) (sym f.is.all)

      later : AreVisits a.start (a.log ++ l) endings (a.log ++ entries_in (marks_in f.is.visits)) q g.is.visits r
      later =
          subst (λ (k : List PlainEntry). AreVisits a.start (a.log ++ l) endings k q g.is.visits r) reached
          (subst (λ (k : List PlainEntry). AreVisits a.start k endings b.log q g.is.visits r) f.tells.schedule
          (subst (λ (s : List Conf). AreVisits s (b.log ++ m) endings b.log q g.is.visits r) f.tells.start g.is.are))

  -- and then one more, behind which the run went on for sure
  pub visited_more : {V : Type 0} (f : V → PlainProgress) (nodes : List V) (i count : ℕ) (v w : V) (a b c : PlainBook) (l m o : List PlainEntry) (x y z : S) (p : PlainRound) → i < length nodes →
      count ≡ length (a.log ++ l) → IsDue count endings b.log (map f nodes) → TellsSuch hears a b l m x y (AreVisited a.start (a.log ++ l) endings a.log p (round_of f nodes i)) →
      TellsSuch hears b c m o y z (IsVisit b.start (b.log ++ m) b.log (f (get_or nodes i v)) (f w)) →
      TellsSuch hears a c l o x z (AreVisited a.start (a.log ++ l) endings a.log p (round_of f (slice_set nodes i w) (i + 1)))
  visited_more f nodes i count v w a b c l m o x y z p within counted due h g =
      visited_further a b c l m o x y z p (record { turn = i; nodes = map f nodes }) (round_of f (slice_set nodes i w) (i + 1)) there
      (visited_one f nodes i v w b c m o y z within still_due g)
    where
      there : TellsSuch hears a b l m x y (AreVisited a.start (a.log ++ l) endings a.log p (record { turn = i; nodes = map f nodes }))
      there = subst (λ (t : ℕ). TellsSuch hears a b l m x y (AreVisited a.start (a.log ++ l) endings a.log p (record { turn = t; nodes = map f nodes }))) (turn_within (length nodes) i within) h

      still_due : IsDue (length (b.log ++ m)) endings b.log (map f nodes)
      still_due = subst (λ (n : ℕ). IsDue n endings b.log (map f nodes)) (counted ∙ ap length (sym h.tells.schedule)) due

  -- the nodes were gone round, as far as that
  pub gone_round : (whole : Bool) (a b : PlainBook) (l m : List PlainEntry) (x y : S) (ps qs : List PlainProgress) (t : ℕ) → (whole ≡ true → t ≡ 0) →
      TellsSuch hears a b l m x y (AreVisited a.start (a.log ++ l) endings a.log (record { turn = 0; nodes = ps }) (record { turn = t; nodes = qs })) →
      TellsSuch hears a b l m x y (AreGoneRound whole a.start (a.log ++ l) endings a.log ps qs)
  gone_round whole a b l m x y ps qs t first h = record { did = h.did; tells = h.tells; is = record { turn = t; first = first; visited = h.is } }

  -- the nodes were gone round to the end
  pub round_whole : {V : Type 0} (f : V → PlainProgress) (nodes : List V) (k : ℕ) (whole : Bool) (a b : PlainBook) (l m : List PlainEntry) (x y : S) (ps : List PlainProgress) → (k < length nodes → ⊥) →
      TellsSuch hears a b l m x y (AreVisited a.start (a.log ++ l) endings a.log (record { turn = 0; nodes = ps }) (round_of f nodes k)) →
      TellsSuch hears a b l m x y (AreGoneRound whole a.start (a.log ++ l) endings a.log ps (map f nodes))
  round_whole f nodes k whole a b l m x y ps over h =
      gone_round whole a b l m x y ps (map f nodes) (turn_behind (length nodes) k) (λ _. turn_over (length nodes) k (nat_lt k (length nodes)) refl over) h

  -- a round behind others
  pub rounds_further : (whole : Bool) (a b c : PlainBook) (l m o : List PlainEntry) (x y z : S) (ps qs rs : List PlainProgress) →
      TellsSuch hears a b l m x y (AreVisited a.start (a.log ++ l) endings a.log (record { turn = 0; nodes = ps }) (record { turn = 0; nodes = qs })) →
      TellsSuch hears b c m o y z (AreGoneRound whole b.start (b.log ++ m) endings b.log qs rs) → TellsSuch hears a c l o x z (AreGoneRound whole a.start (a.log ++ l) endings a.log ps rs)
  rounds_further whole a b c l m o x y z ps qs rs f g =
      gone_round whole a c l o x z ps rs g.is.turn g.is.first
      (visited_further a b c l m o x y z (record { turn = 0; nodes = ps }) (record { turn = 0; nodes = qs }) (record { turn = g.is.turn; nodes = rs }) f (record { did = g.did; tells = g.tells; is = g.is.visited }))

  -- rounds behind which the first node has its turn again
  pub rounds_whole : (whole : Bool) (a b : PlainBook) (l m : List PlainEntry) (x y : S) (ps qs : List PlainProgress) → whole ≡ true →
      TellsSuch hears a b l m x y (AreGoneRound whole a.start (a.log ++ l) endings a.log ps qs) →
      TellsSuch hears a b l m x y (AreVisited a.start (a.log ++ l) endings a.log (record { turn = 0; nodes = ps }) (record { turn = 0; nodes = qs }))
  rounds_whole whole a b l m x y ps qs is h = record {
    did = h.did;
    tells = h.tells;
    is = subst (λ (t : ℕ). AreVisited a.start (a.log ++ l) endings a.log (record { turn = 0; nodes = ps }) (record { turn = t; nodes = qs }) h.did) (h.is.first is) h.is.visited;
  }

  -- and rounds of which nothing more is known
  pub rounds_gone : (whole : Bool) (a b : PlainBook) (l m : List PlainEntry) (x y : S) (ps qs : List PlainProgress) → TellsSuch hears a b l m x y (AreGoneRound whole a.start (a.log ++ l) endings a.log ps qs) →
      TellsSuch hears a b l m x y (AreGoneRound false a.start (a.log ++ l) endings a.log ps qs)
  rounds_gone whole a b l m x y ps qs h = gone_round false a b l m x y ps qs h.is.turn (λ is. absurd (false≢true is)) (record { did = h.did; tells = h.tells; is = h.is.visited })

  -- the whole run is told, then which nodes want of memory cut off, and then the endings
  pub run_told : (a b : PlainBook) (s : SystemParts) (attempts : ℕ) (schedule rest : List PlainEntry) (w x y z : S) (ps qs : List PlainProgress) → a.start ≡ start s → a.log ≡ [] →
      rest ≡ [] → ps ≡ map (progress_at attempts) s.programs → TellsSuch hears a b schedule rest x y (AreGoneRound false a.start (a.log ++ schedule) endings a.log ps qs) → map ended_as qs ≡ endings →
      TellsOn hears b b [] [] y w (cut_off qs) → AreHeard hears (endings_told 0 endings) w z → TellsRun hears s attempts schedule endings x z
  run_told a b s attempts schedule rest w x y z ps qs begins fresh over from f ended cut g = record {
    events = both.events;
    told = subst (λ (cs : List Conf). AreTold cs [] both.events schedule) begins whole_told;
    heard = heard_then hears both.events (endings_told 0 endings) x w z both.heard g;
    last = record { turn = f.is.turn; nodes = qs };
    did = f.did;
    visited = record { visits = f.is.visited.visits; are = all_visits; all = f.is.visited.all };
    ended = ended;
    marked = both.marked;
  }
    where
      both : TellsOn hears a b schedule rest x w (f.did ++ cut_off qs)
      both = tells_further hears a b b schedule rest rest x y w f.tells (tells_beside hears b b y w rest cut)

      whole : b.log ≡ schedule
      whole =
          sym (append-nil b.log)
          ∙ ap (λ (l : List PlainEntry). b.log ++ l) (sym over)
          ∙ both.schedule
          ∙ ap (λ (l : List PlainEntry). l ++ schedule) fresh

      whole_told : AreTold a.start [] both.events schedule
      whole_told =
          subst (λ (l : List PlainEntry). AreTold a.start [] both.events l) whole
          (subst (λ (l : List PlainEntry). AreTold a.start l both.events b.log) fresh both.told)

      all_visits : AreVisits (start s) schedule endings [] (first_round attempts s) f.is.visited.visits (record { turn = f.is.turn; nodes = qs })
      all_visits =
          subst (λ (ns : List PlainProgress). AreVisits (start s) schedule endings [] (record { turn = 0; nodes = ns }) f.is.visited.visits (record { turn = f.is.turn; nodes = qs })) from
          (subst (λ (cs : List Conf). AreVisits cs schedule endings [] (record { turn = 0; nodes = ps }) f.is.visited.visits (record { turn = f.is.turn; nodes = qs })) begins
          (subst (λ (l : List PlainEntry). AreVisits a.start (l ++ schedule) endings l (record { turn = 0; nodes = ps }) f.is.visited.visits (record { turn = f.is.turn; nodes = qs })) fresh f.is.visited.are))

-- what is told of nodes that are cut off goes on from what was told of the first ones
abbrev pub CutsOn : {S V : Type 0} → (PlainEvent → S → S → Type 0) → PlainBook → (V → PlainProgress) → List V → List V → S → S → Type 0
CutsOn {S} hears b f rest all x y = (z : S) → TellsOn hears b b [] [] y z (cut_off (map f rest)) → TellsOn hears b b [] [] x z (cut_off (map f all))

module _ {S V : Type 0} (hears : PlainEvent → S → S → Type 0) (b : PlainBook) (f : V → PlainProgress) where
  pub cuts_first : (all : List V) (x : S) → CutsOn hears b f all all x x
  cuts_first all x = λ z h. h

  pub cuts_further : (n : V) (rest more all : List V) (x y w : S) → rest ≡ n ∷ more → CutsOn hears b f rest all x y → TellsOn hears b b [] [] y w (stops_without (f n)) → CutsOn hears b f more all x w
  cuts_further n rest more all x y w split on told = λ z h.
      on z (subst (λ (ns : List V). TellsOn hears b b [] [] y z (cut_off (map f ns))) (sym split) (tells_further hears b b b [] [] [] y w z told h))

  pub cuts_at : (nodes : List V) (i : ℕ) (n : V) (x y w : S) → i < length nodes → n ≡ get_or nodes i n → CutsOn hears b f (drop i nodes) nodes x y → TellsOn hears b b [] [] y w (stops_without (f n)) →
      CutsOn hears b f (drop (i + 1) nodes) nodes x w
  cuts_at nodes i n x y w within is on told = cuts_further n (drop i nodes) (drop (i + 1) nodes) nodes x y w (drop-cons nodes i n within ∙ rw (← is, add-one) refl) on told

  pub cuts_last : (rest all : List V) (x y : S) → rest ≡ [] → CutsOn hears b f rest all x y → TellsOn hears b b [] [] x y (cut_off (map f all))
  cuts_last rest all x y over on = on y (subst (λ (ns : List V). TellsOn hears b b [] [] y y (cut_off (map f ns))) (sym over) (tells_nothing hears b [] y))

-- a node that has no ending, and is not recorded with want of memory
pub under_way_at : {V : Type 0} (f : V → PlainProgress) (endings : List Ending) (nodes : List V) (i : ℕ) (n : V) → i < length nodes → n ≡ get_or nodes i n → (f n).ending ≡ None →
    (slice_get endings i ≡ Some (Fault Memory) → ⊥) → IsUnderWay endings (map f nodes)
under_way_at {V} f endings nodes i n within is none other = record {
  position = i;
  node = f n;
  there = slice_get-map f nodes i ∙ ap (λ o. option_map f o) (slice_get-get_or nodes i n within) ∙ ap (λ (v : V). Some (f v)) (sym is);
  without = none;
  not_memory = other;
}

-- the nodes gone by have ended as is recorded
pub ended_more : {V A : Type 0} (f : V → PlainProgress) (n : V) (nodes rest : List V) (e : Ending) (endings others : List Ending) → nodes ≡ n ∷ rest → endings ≡ e ∷ others →
    ended_as (f n) ≡ e → (map ended_as (map f nodes) ≡ endings → A) → map ended_as (map f rest) ≡ others → A
ended_more {V} f n nodes rest e endings others split also h then_all more =
    then_all (ap (λ (ns : List V). map ended_as (map f ns)) split ∙ (λ i. h i ∷ more i) ∙ sym also)

pub ended_last : {V A : Type 0} (f : V → PlainProgress) (rest : List V) (others : List Ending) → rest ≡ [] → others ≡ [] → (map ended_as (map f rest) ≡ others → A) → A
ended_last {V} f rest others none also then_all = then_all (ap (λ (ns : List V). map ended_as (map f ns)) none ∙ sym also)
