-- What is told of an attempt of a node, and of a visit.
use Rattle.std.proofs.Common.{◌≡◌, ◌⊎◌, inl, inr, ℕ, ℤ, length, if◌then◌else◌, List, [], ◌∷◌, ◌++◌, Option, Some, None, Result, Ok, Err, refl, sym, ap, subst, ◌∙◌}
use Rattle.std.proofs.lemmas.List.{append-nil}
use Rattle.std.specs.Prelude.{OnOk, is_some, true}
use Rattle.ioa_values.specs.Data.{Data}
use Rattle.ioa_actions.specs.declared.action.Action.{Action}
use Rattle.ioa_actions.specs.declared.fault.StepFault.{StepFault}
use Rattle.ioa_actions.specs.declared.fault.StepFault.TheVariants as step
use Rattle.ioa_terms.specs.declared.tree.Kind.{Kind}
use Rattle.ioa_transitions.specs.Entries.{PlainEntry}
use Rattle.ioa_system.specs.Parts.{Parts}
use Rattle.ioa_commits.specs.Books.{PlainBook}
use Rattle.ioa_commits.specs.Proposals.{PlainProposal}
use Rattle.ioa_commits.specs.Versions.{read_confs}
use Rattle.ioa_book.specs.Looks.{IsLookAt, PlainSnapshot, snapshot_after}
use Rattle.ioa_book.specs.Proposals.{proposal_answer}
use Rattle.ioa_record.specs.declared.ending.Ending.{Ending}
use Rattle.ioa_record.specs.declared.ending.Ending.TheVariants.{Done, Spent, Fault}
use Rattle.ioa_record.specs.declared.ending.NodeFault.{NodeFault}
use Rattle.ioa_record.specs.declared.ending.NodeFault.TheVariants as fault
use Rattle.ioa_schedules.specs.Turns.{TurnEnd, fires, idle, done}
use Rattle.ioa_turns.specs.Faults.{fault_of_step}
use Rattle.ioa_turns.specs.Fired.{action_fired}
use Rattle.ioa_schedules.specs.declared.turn.Turn.{Turn}
use Rattle.ioa_turns.specs.NodeTurns.{PlainProgress, end_of, past_fire, turn_at, with_ending}
use Rattle.ioa_tell.specs.Attempts.{IsAfterFault, misses, fails, IsAfterFire, takes, refused, over}
use Rattle.ioa_tell.specs.Attempts.{IsAttempt, fires_one, waits, comes_to_end, is_stuck, turn_after, with_one_less}
use Rattle.ioa_tell.specs.Attempts.{IsTried, is_spent, attempts, IsVisit, had_ended, tries, stops, stops_without}
use Rattle.ioa_tell.specs.Events.{PlainEvent, stopped}
use Rattle.ioa_tell.specs.Marks as mark
use Rattle.ioa_tell.specs.Marks.{Mark}
use Rattle.ioa_tell.specs.Told.{TellsOn, TellsSuch}
use Rattle.ioa_tell.proofs.Tellings.{on_map, tells_beside, tells_further, tells_next, tells_none, tells_nothing, tells_stopped}

-- the turn of a node on a look at the node that shows the book as it is
turn_seen : (b : PlainBook) (s : PlainSnapshot) (p : PlainProgress) → IsLookAt b s.node s → p.program.node ≡ s.node →
    s ≡ snapshot_after p.program.node b.start b.log
turn_seen b s p fresh own = fresh ∙ (λ i. snapshot_after (sym own i) b.start b.log)

turn_shown : (b : PlainBook) (s : PlainSnapshot) (p : PlainProgress) (r : Result (TurnEnd × PlainProgress) NodeFault) → IsLookAt b s.node s → p.program.node ≡ s.node →
    turn_at (read_confs s.reads) p ≡ r → turn_after b.start b.log p ≡ r
turn_shown b s p r fresh own h = sym (ap (λ (t : PlainSnapshot). turn_at (read_confs t.reads) p) (turn_seen b s p fresh own)) ∙ h

-- a turn that ends so
pub turn_ends : (r : Result (TurnEnd × PlainProgress) NodeFault) (vs : List Data) (q : PlainProgress) (t u : Turn) → r ≡ Ok (end_of vs t, q) → t ≡ u → r ≡ Ok (end_of vs u, q)
turn_ends r vs q t u h is = subst (λ (s : Turn). r ≡ Ok (end_of vs s, q)) is h

-- what is told of a node that has no ending, and of one that has
no_stop : (p : PlainProgress) → p.ending ≡ None → [] ≡ stops p
no_stop p e = sym (ap (λ (o : Option Ending). if is_some o then mark.stopped p.program.node ∷ [] else []) e)

one_stop : (p : PlainProgress) (e : Ending) → p.ending ≡ Some e → mark.stopped p.program.node ∷ [] ≡ stops p
one_stop p e is = sym (ap (λ (o : Option Ending). if is_some o then mark.stopped p.program.node ∷ [] else []) is)

-- the same of one that has none once memory ran out
one_stop_without : (p : PlainProgress) → p.ending ≡ None → mark.stopped p.program.node ∷ [] ≡ stops_without p
one_stop_without p e = sym (ap (λ (o : Option Ending). if is_some o then [] else mark.stopped p.program.node ∷ []) e)

module _ {S : Type 0} (hears : PlainEvent → S → S → Type 0) where
  pub tells_stop_without : (b : PlainBook) (k : ℕ) (n : ℤ) (p : PlainProgress) (x y : S) → p.ending ≡ None → k ≡ length b.log → hears (stopped k n) x y → p.program.node ≡ n → TellsOn hears b b [] [] x y (stops_without p)
  tells_stop_without b k n p x y is count h same = subst (λ (did : List Mark). TellsOn hears b b [] [] x y did) (one_stop_without p is) (tells_stopped hears b k n x y count h p.program.node same)

  pub tells_no_stop : (b : PlainBook) (p : PlainProgress) (x : S) → p.ending ≡ None → TellsOn hears b b [] [] x x (stops p)
  tells_no_stop b p x is = subst (λ (did : List Mark). TellsOn hears b b [] [] x x did) (no_stop p is) (tells_nothing hears b [] x)

  pub tells_stop : (b : PlainBook) (k : ℕ) (n : ℤ) (p : PlainProgress) (e : Ending) (x y : S) → p.ending ≡ Some e → k ≡ length b.log → hears (stopped k n) x y → p.program.node ≡ n → TellsOn hears b b [] [] x y (stops p)
  tells_stop b k n p e x y is count h same = subst (λ (did : List Mark). TellsOn hears b b [] [] x y did) (one_stop p e is) (tells_stopped hears b k n x y count h p.program.node same)

  -- an action is missed
  pub fault_missed : (b : PlainBook) (x y : S) (look : PlainSnapshot) (p q : PlainProgress) (a : Action) → TellsOn hears b b [] [] x y (mark.missed a ∷ []) → q ≡ past_fire p →
      TellsSuch hears b b [] [] x y (IsAfterFault look p q a)
  fault_missed b x y look p q a told past = record { did = mark.missed a ∷ []; tells = told; is = misses past refl }

  -- the step of one has a fault
  pub fault_ended : {X E : Type 0} (result : Result X E) (b : PlainBook) (x y : S) (look : PlainSnapshot) (p q : PlainProgress) (a : Action) (f : StepFault) (g : NodeFault) →
      TellsOn hears b b [] [] x y [] → (f ≡ step.Memory) ⊎ (proposal_answer a look ≡ Err f) → fault_of_step f ≡ Some g → OnOk result (g ≡ fault.Memory → ⊥) → OnOk result (q ≡ with_ending (Fault g) p) →
      OnOk result (TellsSuch hears b b [] [] x y (IsAfterFault look p q a))
  fault_ended (Ok r) b x y look p q a f g told (inl short) is real ended =
      let made : Some g ≡ Some fault.Memory = sym is ∙ ap (λ (s : StepFault). fault_of_step s) short in
      absurd (real (let same : g ≡ fault.Memory = cc in same))
  fault_ended (Ok r) b x y look p q a f g told (inr h) is real ended = record { did = []; tells = told; is = fails f g h is ended refl }
  fault_ended (Err e) b x y look p q a f g told why is real ended = tt

  -- an action is taken
  pub fire_taken : (a b : PlainBook) (e : PlainEntry) (l rest : List PlainEntry) (x y : S) (look : PlainSnapshot) (p q : PlainProgress) (c : Action) → l ≡ e ∷ rest →
      TellsOn hears a b (e ∷ []) [] x y (mark.took e ∷ []) → c ≡ e.action → q ≡ past_fire p → TellsSuch hears a b l rest x y (IsAfterFire look (a.log ++ l) a.log p q c)
  fire_taken a b e l rest x y look p q c split told same past = record {
    did = mark.took e ∷ [];
    tells = tells_next hears a b e l rest x y (mark.took e ∷ []) split told;
    is = takes e (sym same) past refl;
  }

  -- no entry is left, and the schedule was full
  pub fire_over : (b : PlainBook) (l m : List PlainEntry) (x : S) (look : PlainSnapshot) (p q : PlainProgress) (c : PlainProposal) → proposal_answer c.entry.action look ≡ Ok c →
      l ≡ [] → m ≡ [] → q ≡ with_ending (Fault fault.Full) p → TellsSuch hears b b l m x x (IsAfterFire look (b.log ++ l) b.log p q c.entry.action)
  fire_over b l m x look p q c proposed none still ended = record {
    did = [];
    tells = tells_none hears b l m x (still ∙ sym none);
    is = over c proposed (sym (append-nil b.log) ∙ ap (λ (r : List PlainEntry). b.log ++ r) (sym none)) ended refl;
  }

  -- an action has no step
  pub fire_refused : (b : PlainBook) (rest schedule : List PlainEntry) (x y : S) (look : PlainSnapshot) (p q : PlainProgress) (c : Action) → TellsSuch hears b b [] [] x y (IsAfterFault look p q c) →
      TellsSuch hears b b rest rest x y (IsAfterFire look schedule b.log p q c)
  fire_refused b rest schedule x y look p q c h = record { did = h.did; tells = tells_beside hears b b x y rest h.tells; is = refused h.is }

  -- a fire of the same action by the same node
  pub fire_same : {X E : Type 0} (result : Result X E) (b new : PlainBook) (l m : List PlainEntry) (x y : S) (look : PlainSnapshot) (p r q : PlainProgress) (c d : Action) → r ≡ p → c ≡ d →
      OnOk result (TellsSuch hears b new l m x y (IsAfterFire look (b.log ++ l) b.log r q c)) → OnOk result (TellsSuch hears b new l m x y (IsAfterFire look (b.log ++ l) b.log p q d))
  fire_same result b new l m x y look p r q c d node action h =
      subst (λ (a : Action). OnOk result (TellsSuch hears b new l m x y (IsAfterFire look (b.log ++ l) b.log p q a))) action
      (subst (λ (s : PlainProgress). OnOk result (TellsSuch hears b new l m x y (IsAfterFire look (b.log ++ l) b.log s q c))) node h)

  module _ (b : PlainBook) (look : PlainSnapshot) (p : PlainProgress) (fresh : IsLookAt b look.node look) (own : p.program.node ≡ look.node) where
    -- an attempt whose turn fires an action
    pub attempt_fires : {X E : Type 0} (result : Result X E) (new : PlainBook) (l m : List PlainEntry) (x y : S) (r q : PlainProgress) (k : Option Kind) (w : List ℕ) (vs : List Data) →
        turn_at (read_confs look.reads) p ≡ Ok (fires k w vs, r) → r.program ≡ p.program →
        OnOk result (TellsSuch hears b new l m x y (IsAfterFire look (b.log ++ l) b.log r q (action_fired r.program w vs))) →
        OnOk result (TellsSuch hears b new l m x y (IsAttempt b.start (b.log ++ l) b.log p q))
    attempt_fires result new l m x y r q k w vs turn same h = on_map result fired h
      where
        fired : TellsSuch hears b new l m x y (IsAfterFire look (b.log ++ l) b.log r q (action_fired r.program w vs)) → TellsSuch hears b new l m x y (IsAttempt b.start (b.log ++ l) b.log p q)
        fired g =
            let by_own : IsAfterFire look (b.log ++ l) b.log r q (action_fired p.program w vs) g.did =
            subst (λ (s : Parts). IsAfterFire look (b.log ++ l) b.log r q (action_fired s w vs) g.did) same g.is in
            let there : IsAfterFire (snapshot_after p.program.node b.start b.log) (b.log ++ l) b.log r q (action_fired p.program w vs) g.did =
            subst (λ (t : PlainSnapshot). IsAfterFire t (b.log ++ l) b.log r q (action_fired p.program w vs) g.did) (turn_seen b look p fresh own) by_own in
            record { did = g.did; tells = g.tells; is = fires_one k w vs r (turn_shown b look p _ fresh own turn) there }

    -- one whose turn is idle
    pub attempt_idle : {X E : Type 0} (result : Result X E) (rest : List PlainEntry) (x y : S) (q : PlainProgress) → turn_at (read_confs look.reads) p ≡ Ok (idle, q) →
        OnOk result (TellsOn hears b b [] [] x y (mark.waited look.node ∷ [])) → OnOk result (TellsSuch hears b b rest rest x y (IsAttempt b.start (b.log ++ rest) b.log p q))
    attempt_idle result rest x y q turn h = on_map result waited h
      where
        waited : TellsOn hears b b [] [] x y (mark.waited look.node ∷ []) → TellsSuch hears b b rest rest x y (IsAttempt b.start (b.log ++ rest) b.log p q)
        waited g = record {
          did = mark.waited look.node ∷ [];
          tells = tells_beside hears b b x y rest g;
          is = waits (turn_shown b look p _ fresh own turn) (λ i. mark.waited (sym own i) ∷ []);
        }

    -- one that finds that the block is done
    pub attempt_done : (rest : List PlainEntry) (x : S) (r q : PlainProgress) → turn_at (read_confs look.reads) p ≡ Ok (done, r) → q ≡ with_ending Done r →
        TellsSuch hears b b rest rest x x (IsAttempt b.start (b.log ++ rest) b.log p q)
    attempt_done rest x r q turn ended = record {
      did = [];
      tells = tells_nothing hears b rest x;
      is = comes_to_end r (turn_shown b look p _ fresh own turn) ended refl;
    }

    -- one whose turn meets a fault
    pub attempt_stuck : {X E : Type 0} (result : Result X E) (rest : List PlainEntry) (x y : S) (r q : PlainProgress) (f : NodeFault) → TellsOn hears b b [] [] x y [] →
        (f ≡ fault.Memory) ⊎ (turn_at (read_confs look.reads) p ≡ Err f) → r ≡ p → OnOk result (f ≡ fault.Memory → ⊥) → OnOk result (q ≡ with_ending (Fault f) r) →
        OnOk result (TellsSuch hears b b rest rest x y (IsAttempt b.start (b.log ++ rest) b.log p q))
    attempt_stuck (Ok u) rest x y r q f told (inl short) same real ended = absurd (real short)
    attempt_stuck (Ok u) rest x y r q f told (inr turn) same real ended = record {
      did = [];
      tells = tells_beside hears b b x y rest told;
      is = is_stuck f (turn_shown b look p _ fresh own turn) (ended ∙ ap (λ (s : PlainProgress). with_ending (Fault f) s) same) refl;
    }
    attempt_stuck (Err e) rest x y r q f told why same real ended = tt

  -- a node has no attempt left
  pub tried_spent : (b : PlainBook) (rest : List PlainEntry) (x : S) (p q : PlainProgress) → p.attempts ≡ 0 → q ≡ with_ending Spent p →
      TellsSuch hears b b rest rest x x (IsTried b.start (b.log ++ rest) b.log p q)
  tried_spent b rest x p q none ended = record { did = []; tells = tells_nothing hears b rest x; is = is_spent none ended refl }

  -- a node makes an attempt
  pub tried_once : {X E : Type 0} (result : Result X E) (b new : PlainBook) (l m : List PlainEntry) (x y : S) (p r q : PlainProgress) → (p.attempts ≡ 0 → ⊥) → r ≡ with_one_less p →
      OnOk result (TellsSuch hears b new l m x y (IsAttempt b.start (b.log ++ l) b.log r q)) → OnOk result (TellsSuch hears b new l m x y (IsTried b.start (b.log ++ l) b.log p q))
  tried_once result b new l m x y p r q some less h = on_map result tried h
    where
      tried : TellsSuch hears b new l m x y (IsAttempt b.start (b.log ++ l) b.log r q) → TellsSuch hears b new l m x y (IsTried b.start (b.log ++ l) b.log p q)
      tried g = record {
        did = g.did;
        tells = g.tells;
        is = attempts some (subst (λ (s : PlainProgress). IsAttempt b.start (b.log ++ l) b.log s q g.did) less g.is);
      }

  -- a node that had an ending
  pub visit_ended : (b : PlainBook) (rest : List PlainEntry) (x : S) (p : PlainProgress) → is_some p.ending ≡ true → TellsSuch hears b b rest rest x x (IsVisit b.start (b.log ++ rest) b.log p p)
  visit_ended b rest x p ended = record { did = []; tells = tells_nothing hears b rest x; is = had_ended ended refl refl }

  -- a node that had none, and stops or not
  pub visit_tried : {X E : Type 0} (result : Result X E) (a b : PlainBook) (l m : List PlainEntry) (x y z : S) (p q : PlainProgress) → p.ending ≡ None →
      TellsSuch hears a b l m x y (IsTried a.start (a.log ++ l) a.log p q) → OnOk result (TellsOn hears b b [] [] y z (stops q)) →
      OnOk result (TellsSuch hears a b l m x z (IsVisit a.start (a.log ++ l) a.log p q))
  visit_tried result a b l m x y z p q none tried h = on_map result visited h
    where
      visited : TellsOn hears b b [] [] y z (stops q) → TellsSuch hears a b l m x z (IsVisit a.start (a.log ++ l) a.log p q)
      visited g = record {
        did = tried.did ++ stops q;
        tells = tells_further hears a b b l m m x y z tried.tells (tells_beside hears b b y z m g);
        is = tries none tried.did tried.is refl;
      }
