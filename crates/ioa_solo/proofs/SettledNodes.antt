-- What an attempt of a settled node comes to, and when a node is settled.
use Rattle.std.proofs.Common.{◌≡◌, inl, inr, ℕ, ℤ, Bool, true, false, List, Option, Some, None, Result, Ok, Err, if◌then◌else◌, refl, sym, ap, subst, ◌∙◌, length}
use Rattle.std.specs.Prelude.{◌⊎◌, ◌&&◌, IfOk, IfSome, OnOk}
use Rattle.std.specs.Ordering.{int_eq}
use Rattle.ioa_values.specs.Data.{Data}
use Rattle.ioa_values.specs.Outcome.{and_then}
use Rattle.ioa_operators.specs.declared.fault.TermFault.{TermFault}
use Rattle.ioa_actions.specs.ActionParts.{node_of}
use Rattle.ioa_actions.specs.declared.action.Action.{Action}
use Rattle.ioa_actions.specs.declared.component.Component.TheVariants as component
use Rattle.ioa_actions.specs.declared.fault.StepFault.{StepFault}
use Rattle.ioa_actions.specs.declared.fault.StepFault.TheVariants as step
use Rattle.ioa_terms.specs.Inboxes.{PlainInboxes}
use Rattle.ioa_terms.specs.declared.tree.Kind.{Kind}
use Rattle.ioa_transitions.specs.Entries.{PlainEntry}
use Rattle.ioa_compose.specs.Composition.{find_conf, find_confs, picks_of}
use Rattle.ioa_compose.specs.Participants.{participants_of}
use Rattle.ioa_compose.specs.declared.configuration.Conf.{Conf}
use Rattle.ioa_compose.specs.declared.configuration.Conf.TheVariants.{Node, Queue}
use Rattle.ioa_commits.specs.Books.{PlainBook}
use Rattle.ioa_commits.specs.Proposals.{PlainProposal, plain_proposal}
use Rattle.ioa_commits.specs.Versions.{read_confs}
use Rattle.ioa_book.specs.Looks.{IsLookAt, PlainSnapshot, snapshot_after}
use Rattle.ioa_book.specs.Proposals.{proposal_answer, reads_at, step_answer}
use Rattle.ioa_boards.specs.Places.{IsSeenAgain}
use Rattle.ioa_record.specs.declared.ending.NodeFault.{NodeFault}
use Rattle.ioa_record.specs.declared.ending.NodeFault.TheVariants.{Differs}
use Rattle.ioa_schedules.specs.States.{PlainState}
use Rattle.ioa_schedules.specs.Turns.{TurnEnd, TurnResult, fires, idle, done}
use Rattle.ioa_turns.specs.Faults.{fault_of_step}
use Rattle.ioa_turns.specs.Fired.{action_fired}
use Rattle.ioa_turns.specs.Inboxes.{inboxes_seen}
use Rattle.ioa_turns.specs.NodeTurns.{PlainProgress, block_of, block_turn, own_values, past_fire, reached, shows_program, turn_at, turn_on, with_block}
use Rattle.ioa_solo.specs.Fires.{Comes, IsAfterFire, failed_by}
use Rattle.ioa_solo.specs.Settled.{HasComeBack, IsSettled, IsSettledIn, IsTurned, left_by_answer, left_by_end, left_by_turn, unless_ended}
use Rattle.ioa_solo.specs.Solo.{after_turn, attempt, course_of}
use Rattle.ioa_solo.proofs.FreshTurns.{turn_seen}
use Rattle.ioa_solo.proofs.ToldFires.{failed_comes}

-- a turn leaves all of a node but its block
IsOf : PlainProgress → Result (TurnEnd × PlainProgress) NodeFault → Type 0
IsOf p (Ok t) = t.1 ≡ with_block (block_of t.1) p
IsOf p (Err f) = Unit {0}

reached_of : (p : PlainProgress) (r : Result TurnResult TermFault) → IsOf p (reached p r)
unfolding IsOf
reached_of p (Ok r) = refl
reached_of p (Err f) = tt

block_turned : (p : PlainProgress) (is : Option PlainInboxes) (vs : List Data) → IsOf p (block_turn p is vs)
block_turned p is vs = reached_of p _

on_turned : (p : PlainProgress) (is : Option PlainInboxes) (o : Option Conf) → IsOf p (turn_on p is o)
unfolding IsOf
on_turned p is (Some (Node c)) = by_test (shows_program p.program c)
  where
    by_test : (b : Bool) → IsOf p (if b then block_turn p is c.variables else Err Differs)
    by_test true = block_turned p is c.variables
    by_test false = tt
on_turned p is (Some (Queue q)) = tt
on_turned p is None = tt

pub turned : (cs : List Conf) (p q : PlainProgress) (e : TurnEnd) → turn_at cs p ≡ Ok (e, q) → q ≡ with_block (block_of q) p
unfolding IsOf
turned cs p q e h = subst (λ (r : Result (TurnEnd × PlainProgress) NodeFault). IsOf p r) h (on_turned p (inboxes_seen p.program cs) (find_conf (component.Node p.program.node) cs))

-- how many attempts are left makes no difference
module _ (s : PlainSnapshot) (p : PlainProgress) (n : ℕ) where
  abbrev fewer : PlainProgress
  fewer = record p { attempts = n }

  ends_alike : (b : PlainState) (e : TurnEnd) → left_by_end s (with_block b fewer) e ≡ left_by_end s (with_block b p) e
  ends_alike b (fires k w vs) = refl
  ends_alike b idle = refl
  ends_alike b done = refl

  reached_alike : (r : Result TurnResult TermFault) → left_by_turn s (reached fewer r) ≡ left_by_turn s (reached p r)
  reached_alike (Ok r) = ends_alike (record { todo = r.todo; own = own_values (length p.own) r.bindings }) r.ending
  reached_alike (Err f) = refl

  block_alike : (is : Option PlainInboxes) (vs : List Data) → left_by_turn s (block_turn fewer is vs) ≡ left_by_turn s (block_turn p is vs)
  block_alike is vs = reached_alike _

  on_alike : (is : Option PlainInboxes) (o : Option Conf) → left_by_turn s (turn_on fewer is o) ≡ left_by_turn s (turn_on p is o)
  on_alike is (Some (Node c)) = by_test (shows_program p.program c)
    where
      by_test : (b : Bool) → left_by_turn s (if b then block_turn fewer is c.variables else Err Differs) ≡ left_by_turn s (if b then block_turn p is c.variables else Err Differs)
      by_test true = block_alike is c.variables
      by_test false = refl
  on_alike is (Some (Queue q)) = refl
  on_alike is None = refl

  fewer_settled_on : IsSettled p s → IsSettled fewer s
  unfolding IsSettled
  fewer_settled_on h = on_alike (inboxes_seen p.program (read_confs s.reads)) (find_conf (component.Node p.program.node) (read_confs s.reads)) ∙ h

pub fewer_settled : (p : PlainProgress) (n : ℕ) (o : Option PlainSnapshot) → IsSettledIn p o → IsSettledIn (record p { attempts = n }) o
unfolding IsSettledIn
fewer_settled p n None h = h
fewer_settled p n (Some s) h = fewer_settled_on s p n h

-- how long the log is makes no difference
module _ (s t : PlainSnapshot) (node : t.node ≡ s.node) (reads : t.reads ≡ s.reads) where
  picked_alike : (a : Action) (b : PlainState) (r : Result (PlainEntry × List Conf) StepFault) →
      left_by_answer (and_then r (λ x. Ok (plain_proposal x.0 t.length (reads_at (participants_of a) t.reads)))) b
      ≡ left_by_answer (and_then r (λ x. Ok (plain_proposal x.0 s.length (reads_at (participants_of a) s.reads)))) b
  picked_alike a b (Ok x) = refl
  picked_alike a b (Err f) = refl

  steps_alike : (a : Action) (b : PlainState) → left_by_answer (step_answer a t) b ≡ left_by_answer (step_answer a s) b
  steps_alike a b =
      picked_alike a b (picks_of a (find_confs (participants_of a) (read_confs t.reads)))
      ∙ (λ i. left_by_answer (and_then (picks_of a (find_confs (participants_of a) (read_confs (reads i)))) (λ x. Ok (plain_proposal x.0 s.length (reads_at (participants_of a) s.reads)))) b)

  answers_alike : (a : Action) (b : PlainState) → left_by_answer (proposal_answer a t) b ≡ left_by_answer (proposal_answer a s) b
  answers_alike a b = ap (λ (n : ℤ). left_by_answer (if int_eq (node_of a) n then step_answer a t else Err step.NotMine) b) node ∙ by_test (int_eq (node_of a) s.node)
    where
      by_test : (mine : Bool) → left_by_answer (if mine then step_answer a t else Err step.NotMine) b ≡ left_by_answer (if mine then step_answer a s else Err step.NotMine) b
      by_test true = steps_alike a b
      by_test false = refl

  turns_alike : (r : Result (TurnEnd × PlainProgress) NodeFault) → left_by_turn t r ≡ left_by_turn s r
  turns_alike (Ok (fires k w vs, q)) = answers_alike (action_fired q.program w vs) (block_of (past_fire q))
  turns_alike (Ok (idle, q)) = refl
  turns_alike (Ok (done, q)) = refl
  turns_alike (Err f) = refl

  settled_alike : (p : PlainProgress) → IsSettled p s → IsSettled p t
  unfolding IsSettled
  settled_alike p h =
      turns_alike (turn_at (read_confs t.reads) p)
      ∙ ap (λ cs. left_by_turn s (turn_at (read_confs cs) p)) reads ∙ h

-- a node is settled on a look that shows the same
pub settled_again : (p : PlainProgress) (o again : Option PlainSnapshot) → IsSettledIn p o → IsSeenAgain o again → IsSettledIn p again
unfolding IsSettledIn
settled_again p None again h k = absurd h
settled_again p (Some s) None h k = absurd k
settled_again p (Some s) (Some t) h k = settled_alike s t k.node k.reads p h

-- the attempt of a settled node on a look at the book as it is
module _ (b : PlainBook) (p : PlainProgress) (s : PlainSnapshot) (fresh : IsLookAt b p.program.node s) where
  -- where the node goes on
  went_on : (q : PlainProgress) → q ≡ with_block (block_of q) p → block_of q ≡ block_of p → q ≡ p
  went_on q h e = h ∙ ap (λ (x : PlainState). with_block x p) e

  real_miss : (f : StepFault) → fault_of_step f ≡ None → f ≡ step.Memory → ⊥
  real_miss f h e = let none = rw e at h in absurd (cc)

  -- the node that a turn leaves is the one that was looked at
  seen_by : (q : PlainProgress) → q ≡ with_block (block_of q) p → IsLookAt b q.program.node s
  seen_by q h = subst (λ (x : PlainProgress). IsLookAt b x.program.node s) (sym h) fresh

  -- a fire that is missed
  missed : (q : PlainProgress) (a : Action) (f : StepFault) → q ≡ with_block (block_of q) p → proposal_answer a s ≡ Err f →
      (o : Option NodeFault) → fault_of_step f ≡ o → unless_ended o (block_of (past_fire q)) ≡ Some (block_of p) → IsAfterFire b q a b p
  missed q a f h e None none k =
      let same : block_of (past_fire q) ≡ block_of p = cc in
      let left : failed_by f q ≡ past_fire q = rw none refl in
      let back : past_fire q ≡ p = (λ i. with_block (same i) (h i)) in
      failed_comes b q a s f (seen_by q h) (real_miss f none) (inr e)
      ∙ ap (λ (x : PlainProgress). (course_of b, x)) (left ∙ back)
  missed q a f h e (Some g) some k = absurd (cc)

  by_answer : (q : PlainProgress) (a : Action) → q ≡ with_block (block_of q) p → (r : Result PlainProposal StepFault) → proposal_answer a s ≡ r →
      left_by_answer r (block_of (past_fire q)) ≡ Some (block_of p) → IsAfterFire b q a b p
  by_answer q a h (Ok x) e k = absurd (cc)
  by_answer q a h (Err f) e k = missed q a f h e (fault_of_step f) refl k

  by_turn : (r : Result (TurnEnd × PlainProgress) NodeFault) → turn_at (read_confs s.reads) p ≡ r → left_by_turn s r ≡ Some (block_of p) →
      after_turn b.limit (course_of b) p r ≡ (course_of b, p)
  by_turn (Ok (fires k w vs, q)) e h =
      by_answer q (action_fired q.program w vs) (turned (read_confs s.reads) p q (fires k w vs) e) (proposal_answer (action_fired q.program w vs) s) refl h
  by_turn (Ok (idle, q)) e h =
      let same : block_of q ≡ block_of p = cc in
      ap (λ (x : PlainProgress). (course_of b, x)) (went_on q (turned (read_confs s.reads) p q idle e) same)
  by_turn (Ok (done, q)) e h = absurd (cc)
  by_turn (Err f) e h = absurd (cc)

  pub settled_comes : IsSettled p s → Comes attempt b p b p
  unfolding IsSettled
  settled_comes h =
      ap (λ (r : Result (TurnEnd × PlainProgress) NodeFault). after_turn b.limit (course_of b) p r) (sym (turn_seen b p s fresh))
      ∙ by_turn (turn_at (read_confs s.reads) p) refl h

-- a node whose block has come back to where it was before its last turn
pub settled_idle : (kept : Option PlainState) (s : PlainSnapshot) (q : PlainProgress) → IsTurned kept s q idle → kept ≡ Some (block_of q) → IsSettled q s
unfolding IsSettled IsTurned
settled_idle None s q h e = absurd (cc)
settled_idle (Some b) s q h e =
    let same : b ≡ block_of q = cc in
    ap (λ (r : Result (TurnEnd × PlainProgress) NodeFault). left_by_turn s r) (subst (λ (x : PlainState). turn_at (read_confs s.reads) (with_block x q) ≡ Ok (idle, q)) same h)

pub settled_fire : (kept : Option PlainState) (s : PlainSnapshot) (q : PlainProgress) (k : Option Kind) (w : List ℕ) (vs : List Data) (f : StepFault) →
    IsTurned kept s q (fires k w vs) → proposal_answer (action_fired q.program w vs) s ≡ Err f → fault_of_step f ≡ None → kept ≡ Some (block_of (past_fire q)) →
    IsSettled (past_fire q) s
unfolding IsSettled IsTurned
settled_fire None s q k w vs f h answer none e = absurd (cc)
settled_fire (Some b) s q k w vs f h answer none e =
    let same : b ≡ block_of (past_fire q) = cc in
    ap (λ (r : Result (TurnEnd × PlainProgress) NodeFault). left_by_turn s r) (subst (λ (x : PlainState). turn_at (read_confs s.reads) (with_block x q) ≡ Ok (fires k w vs, q)) same h)
    ∙ ap (λ (r : Result PlainProposal StepFault). left_by_answer r (block_of (past_fire q))) answer
    ∙ ap (λ (o : Option NodeFault). unless_ended o (block_of (past_fire q))) none

-- what a turn tells of the block before it
pub turned_before : (kept : Option PlainState) (s : PlainSnapshot) (p q : PlainProgress) (e : TurnEnd) → turn_at (read_confs s.reads) p ≡ Ok (e, q) →
    IfSome kept (λ b. b ≡ block_of p) → IsTurned kept s q e
unfolding IsTurned
turned_before None s p q e h k = tt
turned_before (Some b) s p q e h k =
    let back : with_block b q ≡ p = (λ i. with_block (k i) (turned (read_confs s.reads) p q e h i)) in
    ap (λ (x : PlainProgress). turn_at (read_confs s.reads) x) back ∙ h

-- want of memory is no miss
memory_ends : (f : StepFault) → fault_of_step f ≡ None → f ≡ step.Memory → ⊥
memory_ends f h e = let none = rw e at h in absurd (cc)

-- what is told of a node that has fired what is not enabled
pub fire_settled : {E : Type 0} (r : Result Bool E) (kept again : Option PlainState) (s : PlainSnapshot) (p mid new : PlainProgress) (k : Option Kind) (w : List ℕ) (vs : List Data) (a : Action) (f : StepFault) →
    IsTurned kept s p (fires k w vs) → mid ≡ p → again ≡ kept → a ≡ action_fired p.program w vs → (f ≡ step.Memory) ⊎ (proposal_answer a s ≡ Err f) →
    OnOk r (new ≡ failed_by f mid) → IfOk r (λ b. b ≡ true → HasComeBack (fault_of_step f) again new) → IfOk r (λ b. b ≡ true → IsSettled new s)
fire_settled (Err e) kept again s p mid new k w vs a f turned same same_kept is answer failed back = tt
fire_settled (Ok b) kept again s p mid new k w vs a f turned same same_kept is (inl e) failed back = λ t. absurd (memory_ends f (back t).goes_on e)
fire_settled (Ok b) kept again s p mid new k w vs a f turned same same_kept is (inr e) failed back = λ t.
    let none : fault_of_step f ≡ None = (back t).goes_on in
    let passed : failed_by f mid ≡ past_fire mid = rw none refl in
    let left : new ≡ past_fire p = failed ∙ passed ∙ ap (λ (x : PlainProgress). past_fire x) same in
    let came : kept ≡ Some (block_of (past_fire p)) = sym same_kept ∙ (back t).back ∙ ap (λ (x : PlainProgress). Some (block_of x)) left in
    let answer : proposal_answer (action_fired p.program w vs) s ≡ Err f = ap (λ (x : Action). proposal_answer x s) (sym is) ∙ e in
    subst (λ (x : PlainProgress). IsSettled x s) (sym left) (settled_fire kept s p k w vs f turned answer none came)

-- what is told of a node on a look that shows the same
pub both_settled : (is_same is_settled : Bool) (p : PlainProgress) (o again : Option PlainSnapshot) → (is_settled ≡ true → IsSettledIn p o) → (is_same ≡ true → IsSeenAgain o again) →
    (is_same && is_settled) ≡ true → IsSettledIn p again
both_settled true true p o again h k e = settled_again p o again (h refl) (k refl)
both_settled true false p o again h k e = absurd (cc)
both_settled false b p o again h k e = absurd (cc)

-- what is told of a node that is not settled
pub never_settled : {E : Type 0} (P : Type 0) (r : Result Bool E) → IfOk r (λ b. b ≡ false) → IfOk r (λ b. b ≡ true → P)
never_settled P (Ok b) h = λ e. absurd (cc)
never_settled P (Err e) h = tt

-- the attempt of a settled node on a look in its place
pub settled_there : (b : PlainBook) (p : PlainProgress) (o : Option PlainSnapshot) → o ≡ Some (snapshot_after p.program.node b.start b.log) → IsSettledIn p o → Comes attempt b p b p
unfolding IsSettledIn
settled_there b p o h k =
    settled_comes b p (snapshot_after p.program.node b.start b.log) refl (subst (λ (x : Option PlainSnapshot). IsSettledIn p x) h k)

-- a look in its place
pub settled_in : (p : PlainProgress) (s : PlainSnapshot) (o : Option PlainSnapshot) → Some s ≡ o → IsSettled p s → IsSettledIn p o
unfolding IsSettledIn
settled_in p s o h k = subst (λ (x : Option PlainSnapshot). IsSettledIn p x) h k

pub found_settled : {E : Type 0} (r : Result Bool E) (p : PlainProgress) (s : PlainSnapshot) (o : Option PlainSnapshot) → Some s ≡ o → IfOk r (λ b. b ≡ true → IsSettled p s) → IfOk r (λ b. b ≡ true → IsSettledIn p o)
found_settled (Ok b) p s o h k = λ e. settled_in p s o h (k e)
found_settled (Err e) p s o h k = tt
