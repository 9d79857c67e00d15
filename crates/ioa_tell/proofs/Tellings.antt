-- What is told in several parts.
use Rattle.std.proofs.Common.{◌≡◌, List, [], ◌∷◌, ◌++◌, ℕ, ℤ, ◌+◌, Result, Ok, Err, refl, sym, ap, subst, ◌∙◌, length, append_assoc}
use Rattle.std.proofs.lemmas.List.{append-nil}
use Rattle.std.specs.Prelude.{OnOk}
use Rattle.ioa_values.specs.Data.{Data}
use Rattle.ioa_actions.specs.ActionParts.{node_of}
use Rattle.ioa_actions.specs.declared.action.Action.{Action}
use Rattle.ioa_actions.specs.declared.component.Component.TheVariants.{Node}
use Rattle.ioa_compose.specs.Composition.{find_conf}
use Rattle.ioa_commits.specs.Books.{PlainBook, states_after}
use Rattle.ioa_compose.specs.declared.configuration.Conf.{Conf}
use Rattle.ioa_record.specs.declared.ending.Ending.{Ending}
use Rattle.ioa_transitions.specs.Entries.{PlainEntry}
use Rattle.ioa_reasons.specs.Faulted.{IsFaulted}
use Rattle.ioa_reasons.specs.PlainReasons.{PlainFault, PlainPlace, PlainReason, PlainStatementPlace}
use Rattle.ioa_reasons.specs.Stuck.{IsStuckTold}
use Rattle.ioa_reasons.specs.Unfit.{IsUnfit}
use Rattle.ioa_tell.specs.Events.{PlainEvent, taken, missed, faulted, unfit, stuck, idle, stopped, ended}
use Rattle.ioa_tell.specs.Marks as mark
use Rattle.ioa_tell.specs.Marks.{Mark, entries_in, marks_of}
use Rattle.ioa_tell.specs.Told.{AreHeard, AreTold, IsMissedIn, TellsOn, endings_told}

-- what follows from what a call has done, where it has
pub on_map : {X E : Type 0} {P Q : Type 0} (r : Result X E) → (P → Q) → OnOk r P → OnOk r Q
on_map (Ok x) f h = f h
on_map (Err e) f h = tt

pub on_from : {X E : Type 0} {P Q : Type 0} (r : Result X E) → OnOk r P → (P → Q) → OnOk r Q
on_from r h f = on_map r f h

-- what holds anyway
pub on_any : {X E : Type 0} {P : Type 0} (r : Result X E) → P → OnOk r P
on_any (Ok x) h = h
on_any (Err e) h = tt

-- what goes along a schedule, and then what goes on
pub told_then : (start : List Conf) (log : List PlainEntry) (xs ys : List PlainEvent) (mid last : List PlainEntry) → AreTold start log xs mid → AreTold start mid ys last → AreTold start log (xs ++ ys) last
told_then start log [] ys mid last h g = subst (λ (l : List PlainEntry). AreTold start l ys last) (sym h) g
told_then start log (taken k e before after queue ∷ xs) ys mid last h g = (h.0, h.1, told_then start (log ++ e ∷ []) xs ys mid last h.2 g)
told_then start log (missed k a r ∷ xs) ys mid last h g = (h.0, h.1, told_then start log xs ys mid last h.2 g)
told_then start log (faulted k a place f ∷ xs) ys mid last h g = (h.0, h.1, told_then start log xs ys mid last h.2 g)
told_then start log (unfit k a w v ∷ xs) ys mid last h g = (h.0, h.1, told_then start log xs ys mid last h.2 g)
told_then start log (stuck k n place f ∷ xs) ys mid last h g = (h.0, h.1, told_then start log xs ys mid last h.2 g)
told_then start log (idle k n ∷ xs) ys mid last h g = (h.0, told_then start log xs ys mid last h.1 g)
told_then start log (stopped k n ∷ xs) ys mid last h g = (h.0, told_then start log xs ys mid last h.1 g)
told_then start log (ended n e ∷ xs) ys mid last h g = absurd h

-- who is told one thing after another
pub heard_then : {S : Type 0} (hears : PlainEvent → S → S → Type 0) (xs ys : List PlainEvent) (a b c : S) → AreHeard hears xs a b → AreHeard hears ys b c → AreHeard hears (xs ++ ys) a c
heard_then {S} hears [] ys a b c h g = subst (λ (s : S). AreHeard hears ys s c) (sym h) g
heard_then hears (e ∷ xs) ys a b c h g = (h.0, h.1, heard_then hears xs ys h.0 b c h.2 g)

-- what is said of attempts
marks_then : (xs ys : List PlainEvent) → marks_of (xs ++ ys) ≡ marks_of xs ++ marks_of ys
marks_then [] ys = refl
marks_then (taken k e before after queue ∷ xs) ys = ap (λ (ms : List Mark). mark.took e ∷ ms) (marks_then xs ys)
marks_then (missed k a r ∷ xs) ys = ap (λ (ms : List Mark). mark.missed a ∷ ms) (marks_then xs ys)
marks_then (faulted k a place f ∷ xs) ys = marks_then xs ys
marks_then (unfit k a w v ∷ xs) ys = marks_then xs ys
marks_then (stuck k n place f ∷ xs) ys = marks_then xs ys
marks_then (idle k n ∷ xs) ys = ap (λ (ms : List Mark). mark.waited n ∷ ms) (marks_then xs ys)
marks_then (stopped k n ∷ xs) ys = ap (λ (ms : List Mark). mark.stopped n ∷ ms) (marks_then xs ys)
marks_then (ended n e ∷ xs) ys = marks_then xs ys

-- and which entries were taken
told_log : (start : List Conf) (log : List PlainEntry) (xs : List PlainEvent) (last : List PlainEntry) → AreTold start log xs last → last ≡ log ++ entries_in (marks_of xs)
told_log start log [] last h = sym h ∙ sym (append-nil log)
told_log start log (taken k e before after queue ∷ xs) last h = told_log start (log ++ e ∷ []) xs last h.2 ∙ append_assoc log (e ∷ []) (entries_in (marks_of xs))
told_log start log (missed k a r ∷ xs) last h = told_log start log xs last h.2
told_log start log (faulted k a place f ∷ xs) last h = told_log start log xs last h.2
told_log start log (unfit k a w v ∷ xs) last h = told_log start log xs last h.2
told_log start log (stuck k n place f ∷ xs) last h = told_log start log xs last h.2
told_log start log (idle k n ∷ xs) last h = told_log start log xs last h.1
told_log start log (stopped k n ∷ xs) last h = told_log start log xs last h.1
told_log start log (ended n e ∷ xs) last h = absurd h

module _ {S : Type 0} (hears : PlainEvent → S → S → Type 0) where
  -- the entries that were taken are behind those before
  pub log_after : {did : List Mark} (a b : PlainBook) (l m : List PlainEntry) (x y : S) → TellsOn hears a b l m x y did → b.log ≡ a.log ++ entries_in did
  log_after a b l m x y f = told_log a.start a.log f.events b.log f.told ∙ ap (λ (ms : List Mark). a.log ++ entries_in ms) f.marked

  -- nothing is told
  pub tells_nothing : (b : PlainBook) (left : List PlainEntry) (x : S) → TellsOn hears b b left left x x []
  tells_nothing b left x = record { start = refl; schedule = refl; events = []; heard = refl; told = refl; marked = refl }

  -- something is told, and then more
  pub tells_further : {did does : List Mark} (a b c : PlainBook) (l m r : List PlainEntry) (x y z : S) → TellsOn hears a b l m x y did → TellsOn hears b c m r y z does → TellsOn hears a c l r x z (did ++ does)
  tells_further a b c l m r x y z f g = record {
    start = g.start ∙ f.start;
    schedule = g.schedule ∙ f.schedule;
    events = f.events ++ g.events;
    heard = heard_then hears f.events g.events x y z f.heard g.heard;
    told = told_then a.start a.log f.events g.events b.log c.log f.told (subst (λ (s : List Conf). AreTold s b.log g.events c.log) f.start g.told);
    marked = marks_then f.events g.events ∙ (λ i. f.marked i ++ g.marked i);
  }

  -- what is told stands before what is left
  pub tells_before : {did : List Mark} (a b : PlainBook) (l : List PlainEntry) (x y : S) (rest : List PlainEntry) → TellsOn hears a b l [] x y did → TellsOn hears a b (l ++ rest) rest x y did
  tells_before a b l x y rest f = record {
    start = f.start;
    schedule = ap (λ (s : List PlainEntry). s ++ rest) (sym (append-nil b.log) ∙ f.schedule) ∙ append_assoc a.log l rest;
    events = f.events;
    heard = f.heard;
    told = f.told;
    marked = f.marked;
  }

  -- the same before entries that are left
  pub tells_beside : {did : List Mark} (a b : PlainBook) (x y : S) (rest : List PlainEntry) → TellsOn hears a b [] [] x y did → TellsOn hears a b rest rest x y did
  tells_beside a b x y rest f = tells_before a b [] x y rest f

  -- an entry is told that was the next one
  pub tells_next : (a b : PlainBook) (e : PlainEntry) (l rest : List PlainEntry) (x y : S) (did : List Mark) → l ≡ e ∷ rest → TellsOn hears a b (e ∷ []) [] x y did → TellsOn hears a b l rest x y did
  tells_next a b e l rest x y did split f = subst (λ (m : List PlainEntry). TellsOn hears a b m rest x y did) (sym split) (tells_before a b (e ∷ []) x y rest f)

  -- nothing is told, and what is left stays
  pub tells_none : (b : PlainBook) (l m : List PlainEntry) (x : S) → m ≡ l → TellsOn hears b b l m x x []
  tells_none b l m x same = subst (λ (r : List PlainEntry). TellsOn hears b b l r x x []) (sym same) (tells_nothing b l x)

  -- one thing is told that takes no action
  pub tells_idle : (b : PlainBook) (k : ℕ) (n : ℤ) (x y : S) → k ≡ length b.log → hears (idle k n) x y → (m : ℤ) → m ≡ n → TellsOn hears b b [] [] x y (mark.waited m ∷ [])
  tells_idle b k n x y e h m same = record { start = refl; schedule = refl; events = idle k n ∷ []; heard = (y, h, refl); told = (e, refl); marked = λ i. mark.waited (sym same i) ∷ [] }

  pub tells_stopped : (b : PlainBook) (k : ℕ) (n : ℤ) (x y : S) → k ≡ length b.log → hears (stopped k n) x y → (m : ℤ) → m ≡ n → TellsOn hears b b [] [] x y (mark.stopped m ∷ [])
  tells_stopped b k n x y e h m same = record { start = refl; schedule = refl; events = stopped k n ∷ []; heard = (y, h, refl); told = (e, refl); marked = λ i. mark.stopped (sym same i) ∷ [] }

  pub tells_missed : (b : PlainBook) (k : ℕ) (a : Action) (r : PlainReason) (x y : S) → k ≡ length b.log → IsMissedIn (states_after b.start b.log) a r → hears (missed k a r) x y → TellsOn hears b b [] [] x y (mark.missed a ∷ [])
  tells_missed b k a r x y e m h = record { start = refl; schedule = refl; events = missed k a r ∷ []; heard = (y, h, refl); told = (e, m, refl); marked = refl }

  pub tells_faulted : (b : PlainBook) (k : ℕ) (a : Action) (place : PlainPlace) (f : PlainFault) (x y : S) → k ≡ length b.log → IsFaulted (find_conf (Node (node_of a)) (states_after b.start b.log)) a place f → hears (faulted k a place f) x y → TellsOn hears b b [] [] x y []
  tells_faulted b k a place f x y e m h = record { start = refl; schedule = refl; events = faulted k a place f ∷ []; heard = (y, h, refl); told = (e, m, refl); marked = refl }

  pub tells_unfit : (b : PlainBook) (k : ℕ) (a : Action) (w : List ℕ) (v : Data) (x y : S) → k ≡ length b.log → IsUnfit (find_conf (Node (node_of a)) (states_after b.start b.log)) a w v → hears (unfit k a w v) x y → TellsOn hears b b [] [] x y []
  tells_unfit b k a w v x y e m h = record { start = refl; schedule = refl; events = unfit k a w v ∷ []; heard = (y, h, refl); told = (e, m, refl); marked = refl }

  pub tells_stuck : (b : PlainBook) (k : ℕ) (n : ℤ) (place : PlainStatementPlace) (f : PlainFault) (x y : S) → k ≡ length b.log → hears (stuck k n place f) x y → (m : ℤ) → IsStuckTold m b.start b.log place f → m ≡ n → TellsOn hears b b [] [] x y []
  tells_stuck b k n place f x y e h m s same =
      let there = subst (λ (i : ℤ). IsStuckTold i b.start b.log place f) same s in
      record { start = refl; schedule = refl; events = stuck k n place f ∷ []; heard = (y, h, refl); told = (e, there, refl); marked = refl }

-- what is told of the endings that are left goes on from what was told of the first ones
abbrev pub LeadsOn : {S : Type 0} → (PlainEvent → S → S → Type 0) → ℕ → List Ending → List Ending → S → S → Type 0
LeadsOn {S} hears i rest all x y = (z : S) → AreHeard hears (endings_told i rest) y z → AreHeard hears (endings_told 0 all) x z

pub leads_first : {S : Type 0} (hears : PlainEvent → S → S → Type 0) (all : List Ending) (x : S) → LeadsOn hears 0 all all x x
leads_first hears all x = λ z h. h

pub leads_further : {S : Type 0} (hears : PlainEvent → S → S → Type 0) (i : ℕ) (e : Ending) (rest more all : List Ending) (x y w : S) → rest ≡ e ∷ more → LeadsOn hears i rest all x y → hears (ended i e) y w → LeadsOn hears (i + 1) more all x w
leads_further {S} hears i e rest more all x y w split f told = λ z h. f z (subst (λ (l : List Ending). AreHeard hears (endings_told i l) y z) (sym split) (w, told, h))

pub leads_last : {S : Type 0} (hears : PlainEvent → S → S → Type 0) (i : ℕ) (rest all : List Ending) (x y : S) → rest ≡ [] → LeadsOn hears i rest all x y → AreHeard hears (endings_told 0 all) x y
leads_last {S} hears i rest all x y over f = f y (subst (λ (l : List Ending). AreHeard hears (endings_told i l) y y) (sym over) refl)
