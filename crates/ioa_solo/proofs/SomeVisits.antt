-- What visits make of a node on a board whose book need not be told.
use Rattle.std.proofs.Common.{◌≡◌, ◌⊎◌, inl, inr, ℕ, zero, suc, ◌+◌, ◌-◌, ◌<◌, ◌≤◌, ℤ, List, [], ◌∷◌, ◌++◌, get_or, take, drop, map, length, Bool, true, false, Option, Some, None, slice_set, refl, sym, ap, subst, ◌∙◌, append_assoc, arith}
use Rattle.std.specs.Prelude.{Result, Ok, Err, IfErr, IfOk, IfSome, OnErr, OnOk, is_some, slice_get}
use Rattle.std.specs.List.{AllByRecursion, AllZip, list_all}
use Rattle.std.specs.Option.{option_map, unwrap_or}
use Rattle.std.specs.Ordering.{int_eq}
use Rattle.std.proofs.lemmas.Bool.Decides.{Decides-int_eq}
use Rattle.std.proofs.lemmas.List.{drop_all, drop_more, drop-set-lt, map-append, take_all, take_more_set, take-append-drop}
use Rattle.std.proofs.lemmas.Option.{slice_get-map}
use Rattle.ioa_actions.specs.declared.action.Action.{Action}
use Rattle.ioa_actions.specs.declared.component.Component.TheVariants as component
use Rattle.ioa_actions.specs.declared.fault.StepFault.{StepFault}
use Rattle.ioa_actions.specs.declared.fault.StepFault.TheVariants as step
use Rattle.ioa_transitions.specs.Entries.{PlainEntry}
use Rattle.ioa_compose.specs.Composition.{find_conf}
use Rattle.ioa_commits.specs.Proposals.{PlainProposal}
use Rattle.ioa_commits.specs.Versions.{read_confs}
use Rattle.ioa_book.specs.Looks.{PlainSnapshot}
use Rattle.ioa_book.specs.Proposals.{proposal_answer}
use Rattle.ioa_boards.specs.Places.{SeesSome}
use Rattle.ioa_record.specs.declared.ending.Ending.{Ending}
use Rattle.ioa_record.specs.declared.ending.Ending.TheVariants.{Fault, Spent}
use Rattle.ioa_record.specs.declared.ending.NodeFault.{NodeFault}
use Rattle.ioa_record.specs.declared.ending.NodeFault.TheVariants as fault
use Rattle.ioa_passes.specs.Passes.{PlainPass}
use Rattle.ioa_passes.specs.declared.outcome.ViewFault.{ViewFault}
use Rattle.ioa_held.specs.declared.outcome.Miss.{Miss}
use Rattle.ioa_held.specs.declared.outcome.Miss.TheVariants as miss
use Rattle.ioa_shared.specs.SomeBook.{LooksAtSome, MissesInSome, TakesInSome}
use Rattle.ioa_sharing.specs.declared.named.Origin as Origin
use Rattle.ioa_system.specs.Parts.{Parts}
use Rattle.ioa_system.specs.Systems.{SystemParts}
use Rattle.ioa_schedules.specs.States.{PlainState}
use Rattle.ioa_schedules.specs.Turns.{TurnEnd, fires, idle, done}
use Rattle.ioa_turns.specs.Faults.{fault_of_refusal, fault_of_step}
use Rattle.ioa_turns.specs.Fired.{action_fired}
use Rattle.ioa_turns.specs.Inboxes.{inboxes_seen}
use Rattle.ioa_turns.specs.NodeTurns.{PlainProgress, block_of, past_fire, progress_at, turn_at, with_block, with_ending}
use Rattle.ioa_solo.specs.Fires.{ended_by, failed_by, fault_of_view, missed_by}
use Rattle.ioa_solo.specs.Meets.{fault_of_conf, met_in}
use Rattle.ioa_solo.specs.Settled.{IsSettled, IsSettledIn, left_by_answer, left_by_turn, unless_ended}
use Rattle.ioa_solo.specs.Solo.{IsEndedBy, ending_of, has_ended, short_of_memory}
use Rattle.ioa_solo.specs.SomeVisits.{AreBegun, AreEndingsOf, ArePassed, HasAtMost, IsAfterEndOn, IsAfterTurnOn, IsAttemptBy, IsAttemptOn, IsBegun, IsCommitted, IsEnded, IsEndingOf, IsLeft, IsMet, IsMetAtSome, IsMetBy, IsOver, IsOwnEnding, IsPassedBy, IsProposed, IsReached, IsSomeAttempt, IsSomeVisit, MissesAtSome, TakesAtSome, after_commit, one_used}
use Rattle.ioa_solo.specs.Visits.{numbers_of, progress_in}
use Rattle.ioa_solo.specs.Works.{ending_at, ending_unvisited, program_of}
use Rattle.ioa_solo.specs.declared.visited.Visited.{Visited}
use Rattle.ioa_solo.proofs.SettledNodes.{turned}
use Rattle.ioa_solo.proofs.Termination.{IsNear, KeepsAttempts, turn_keeps}
use Rattle.ioa_solo.proofs.ToldRounds.{all_taken, next_dropped, next_taken}

-- what came of a commit
pub takes : (s : SystemParts) (x : PlainProposal) (p : PlainPass) (i : ℕ) (e : PlainEntry) (q : PlainPass) → TakesInSome s x p i e q → TakesAtSome s x
takes s x p i e q h = record { before = p; index = i; entry = e; after = q; taken = h }

pub takes_some : {X E : Type 0} (s : SystemParts) (r : Result X E) (index : X → ℕ) (entry : X → PlainEntry) (x : PlainProposal) (p q : PlainPass) → IfOk r (λ t. TakesInSome s x p (index t) (entry t) q) → OnOk r (TakesAtSome s x)
takes_some s (Ok t) index entry x p q h = takes s x p (index t) (entry t) q h
takes_some s (Err e) index entry x p q h = tt

pub misses_some : {X E : Type 0} (s : SystemParts) (r : Result X E) (why : E → Miss) (back : E → PlainProposal) (x : PlainProposal) (p q : PlainPass) → IfErr r (λ m. MissesInSome s x p (why m) (back m) q) → IfErr r (λ m. MissesAtSome s x (why m))
misses_some s (Ok t) why back x p q h = tt
misses_some s (Err m) why back x p q h = record { before = p; back = back m; after = q; missed = h }

pub taken_commit : (s : SystemParts) (x : PlainProposal) (p q : PlainProgress) → TakesAtSome s x → q ≡ past_fire p → IsCommitted s x p q
taken_commit s x p q h node = record { missed = None; commit = h; node = node }

pub missed_commit : (s : SystemParts) (x : PlainProposal) (why : Miss) (p q : PlainProgress) → MissesAtSome s x why → q ≡ missed_by why p → IsCommitted s x p q
missed_commit s x why p q h node = record { missed = Some why; commit = h; node = node }

pub offered_commit : {X E : Type 0} (r : Result X E) (s : SystemParts) (x y : PlainProposal) (p q : PlainProgress) → x ≡ y → OnOk r (IsCommitted s y p q) → OnOk r (IsCommitted s x p q)
offered_commit (Ok t) s x y p q same h = subst (λ (z : PlainProposal). IsCommitted s z p q) (sym same) h
offered_commit (Err e) s x y p q same h = tt

-- what a node proposes
module _ (s : SystemParts) (t : PlainSnapshot) (a b : Action) (same : a ≡ b) (p m q : PlainProgress) (before : m ≡ p) where
  answered : (r : Result PlainProposal StepFault) → proposal_answer a t ≡ r → r ≡ proposal_answer b t
  answered r h = sym h ∙ ap (λ (c : Action). proposal_answer c t) same

  pub proposed_on : {X E : Type 0} (r : Result X E) (x : PlainProposal) → proposal_answer a t ≡ Ok x → OnOk r (IsCommitted s x m q) → OnOk r (IsProposed s (proposal_answer b t) p q)
  proposed_on (Ok y) x h k =
      subst (λ (z : Result PlainProposal StepFault). IsProposed s z p q) (answered (Ok x) h)
      (subst (λ (z : PlainProgress). IsCommitted s x z q) before k)
  proposed_on (Err e) x h k = tt

  pub failed_on : {X E : Type 0} (r : Result X E) (f : StepFault) → (f ≡ step.Memory) ⊎ (proposal_answer a t ≡ Err f) → OnOk r (q ≡ failed_by f m) → OnOk r (f ≡ step.Memory → ⊥) → OnOk r (IsProposed s (proposal_answer b t) p q)
  failed_on (Ok y) f (inl e) k real = absurd (real e)
  failed_on (Ok y) f (inr e) k real =
      subst (λ (z : Result PlainProposal StepFault). IsProposed s z p q) (answered (Err f) e)
      (k ∙ ap (λ (z : PlainProgress). failed_by f z) before)
  failed_on (Err e) f h k real = tt

-- what follows from its turn
module _ {X E : Type 0} (s : SystemParts) (t : PlainSnapshot) (p m q : PlainProgress) where
  pub turned_on : (r : Result X E) (e : TurnEnd) → turn_at (read_confs t.reads) p ≡ Ok (e, m) → OnOk r (IsAfterEndOn s t m e q) → OnOk r (IsAttemptOn s t p q)
  turned_on (Ok x) e h k = subst (λ (z : Result (TurnEnd × PlainProgress) NodeFault). IsAfterTurnOn s t p z q) (sym h) k
  turned_on (Err f) e h k = tt

  pub unturned_on : (r : Result X E) (f : NodeFault) → (f ≡ fault.Memory) ⊎ (turn_at (read_confs t.reads) p ≡ Err f) → m ≡ p → OnOk r (IsEndedBy f m q) → OnOk r (IsAttemptOn s t p q)
  unturned_on (Ok x) f (inl e) same k = absurd (k.0 e)
  unturned_on (Ok x) f (inr e) same k =
      subst (λ (z : Result (TurnEnd × PlainProgress) NodeFault). IsAfterTurnOn s t p z q) (sym e)
      (k.1 ∙ ap (λ (z : PlainProgress). with_ending (Fault f) z) same)
  unturned_on (Err g) f h same k = tt

-- the attempt of a settled node
module _ (s : SystemParts) (t : PlainSnapshot) (p : PlainProgress) where
  went_back : (q : PlainProgress) → q ≡ with_block (block_of q) p → block_of q ≡ block_of p → q ≡ p
  went_back q h e = h ∙ ap (λ (x : PlainState). with_block x p) e

  by_fault : (q : PlainProgress) (f : StepFault) → q ≡ with_block (block_of q) p → (o : Option NodeFault) → fault_of_step f ≡ o → unless_ended o (block_of (past_fire q)) ≡ Some (block_of p) → p ≡ failed_by f q
  by_fault q f h None none k =
      let same : block_of (past_fire q) ≡ block_of p = cc in
      let left : failed_by f q ≡ past_fire q = rw none refl in
      let back : past_fire q ≡ p = (λ i. with_block (same i) (h i)) in
      sym (left ∙ back)
  by_fault q f h (Some g) some k = absurd (cc)

  by_answer : (q : PlainProgress) → q ≡ with_block (block_of q) p → (r : Result PlainProposal StepFault) → left_by_answer r (block_of (past_fire q)) ≡ Some (block_of p) → IsProposed s r q p
  by_answer q h (Ok x) k = absurd (cc)
  by_answer q h (Err f) k = by_fault q f h (fault_of_step f) refl k

  by_turn : (r : Result (TurnEnd × PlainProgress) NodeFault) → turn_at (read_confs t.reads) p ≡ r → left_by_turn t r ≡ Some (block_of p) → IsAfterTurnOn s t p r p
  by_turn (Ok (fires k w vs, q)) e h = by_answer q (turned (read_confs t.reads) p q (fires k w vs) e) (proposal_answer (action_fired q.program w vs) t) h
  by_turn (Ok (idle, q)) e h =
      let same : block_of q ≡ block_of p = cc in
      sym (went_back q (turned (read_confs t.reads) p q idle e) same)
  by_turn (Ok (done, q)) e h = absurd (cc)
  by_turn (Err f) e h = absurd (cc)

  settled_attempt : IsSettled p t → IsAttemptOn s t p p
  unfolding IsSettled
  settled_attempt h = by_turn (turn_at (read_confs t.reads) p) refl h

pub settled_on : (s : SystemParts) (p : PlainProgress) (o : Option PlainSnapshot) → IsSettledIn p o → IfSome o (λ t. IsAttemptOn s t p p)
unfolding IsSettledIn
settled_on s p None h = tt
settled_on s p (Some t) h = settled_attempt s t p h

-- attempts, by the look in its place
pub found_on : {X E : Type 0} (r : Result X E) (s : SystemParts) (t : PlainSnapshot) (o : Option PlainSnapshot) (p q : PlainProgress) → Some t ≡ o → OnOk r (IsAttemptOn s t p q) → OnOk r (IfSome o (λ t. IsAttemptOn s t p q))
found_on (Ok x) s t o p q h k = subst (λ (z : Option PlainSnapshot). IfSome z (λ t. IsAttemptOn s t p q)) h k
found_on (Err e) s t o p q h k = tt

module _ (s : SystemParts) (pass : PlainPass) (n : ℤ) (p q : PlainProgress) (own : n ≡ p.program.node) where
  told_of : (look : Result PlainSnapshot ViewFault) → LooksAtSome s pass n look → LooksAtSome s pass p.program.node look
  told_of look h = subst (λ (k : ℤ). LooksAtSome s pass k look) own h

  pub seen_attempt : {X E : Type 0} (r : Result X E) (o : Option PlainSnapshot) (after : PlainPass) → SeesSome s pass n o after → OnOk r (IfSome o (λ t. IsAttemptOn s t p q)) → OnOk r (IsSomeAttempt s p q)
  seen_attempt (Ok x) o after h k = record {
    pass = pass;
    look = Ok h.seen;
    shown = told_of (Ok h.seen) h.some;
    attempt = subst (λ (z : Option PlainSnapshot). IfSome z (λ t. IsAttemptOn s t p q)) h.put k;
  }
  seen_attempt (Err e) o after h k = tt

  pub unseen_attempt : {X E : Type 0} (r : Result X E) (v : ViewFault) (f : NodeFault) → f ≡ fault_of_view v → LooksAtSome s pass n (Err v) → OnOk r (IsEndedBy f p q) → OnOk r (IsSomeAttempt s p q)
  unseen_attempt (Ok x) v f is h k = record {
    pass = pass;
    look = Err v;
    shown = told_of (Err v) h;
    attempt = k.1 ∙ ap (λ (z : NodeFault). with_ending (Fault z) p) is;
  }
  unseen_attempt (Err e) v f is h k = tt

  -- and a node that is met
  pub seen_met : (o : Option PlainSnapshot) (after : PlainPass) → SeesSome s pass n o after → IfSome o (λ t. q ≡ met_in (read_confs t.reads) p) → IsMetAtSome s p q
  seen_met o after h k = record {
    pass = pass;
    look = Ok h.seen;
    shown = told_of (Ok h.seen) h.some;
    met = subst (λ (z : Option PlainSnapshot). IfSome z (λ t. q ≡ met_in (read_confs t.reads) p)) h.put k;
  }

  pub unseen_met : {X E : Type 0} (r : Result X E) (v : ViewFault) (f : NodeFault) → f ≡ fault_of_view v → LooksAtSome s pass n (Err v) → OnOk r (IsEndedBy f p q) → OnOk r (IsMetAtSome s p q)
  unseen_met (Ok x) v f is h k = record {
    pass = pass;
    look = Err v;
    shown = told_of (Err v) h;
    met = k.1 ∙ ap (λ (z : NodeFault). with_ending (Fault z) p) is;
  }
  unseen_met (Err e) v f is h k = tt

-- visits
pub passed_visit : {X E : Type 0} (r : Result X E) (s : SystemParts) (p q : PlainProgress) → p.ending ≡ None → OnOk r (IsSomeVisit s p q) → OnOk r (IsPassedBy s p q)
passed_visit (Ok x) s p q none h = inr (none, h)
passed_visit (Err e) s p q none h = tt

-- a visit ends its node, or uses an attempt
ended_near : (n : ℕ) (o : Option NodeFault) (w p : PlainProgress) → w.attempts < n → IsNear n (ended_by o w p)
ended_near n None w p h = inr h
ended_near n (Some f) w p h = inl refl

missed_near : (n : ℕ) (why : Miss) (p : PlainProgress) → p.attempts < n → IsNear n (missed_by why p)
missed_near n (miss.Older o) p h = inl refl
missed_near n (miss.Refused why) p h = ended_near n (fault_of_refusal why) p p h

commit_near : (n : ℕ) (o : Option Miss) (p : PlainProgress) → p.attempts < n → IsNear n (after_commit o p)
commit_near n None p h = inr h
commit_near n (Some why) p h = missed_near n why p h

as_near : (n : ℕ) (p q : PlainProgress) → q ≡ p → IsNear n p → IsNear n q
as_near n p q same h = subst (λ (z : PlainProgress). IsNear n z) (sym same) h

proposed_near : (s : SystemParts) (n : ℕ) (r : Result PlainProposal StepFault) (p q : PlainProgress) → p.attempts < n → IsProposed s r p q → IsNear n q
proposed_near s n (Ok x) p q h k = as_near n (after_commit k.missed p) q k.node (commit_near n k.missed p h)
proposed_near s n (Err f) p q h k = as_near n (failed_by f p) q k (ended_near n (fault_of_step f) (past_fire p) p h)

end_near : (s : SystemParts) (t : PlainSnapshot) (n : ℕ) (p : PlainProgress) (e : TurnEnd) (q : PlainProgress) → p.attempts < n → IsAfterEndOn s t p e q → IsNear n q
end_near s t n p done q h k = as_near n _ q k (inl refl)
end_near s t n p idle q h k = as_near n p q k (inr h)
end_near s t n p (fires w a vs) q h k = proposed_near s n (proposal_answer (action_fired p.program a vs) t) p q h k

turn_near : (s : SystemParts) (t : PlainSnapshot) (n left : ℕ) (p : PlainProgress) (r : Result (TurnEnd × PlainProgress) NodeFault) (q : PlainProgress) → KeepsAttempts left r → left < n → IsAfterTurnOn s t p r q → IsNear n q
unfolding KeepsAttempts
turn_near s t n left p (Ok u) q keeps h k = end_near s t n u.1 u.0 q (rw keeps h) k
turn_near s t n left p (Err f) q keeps h k = as_near n _ q k (inl refl)

attempt_near : (s : SystemParts) (n : ℕ) (p q : PlainProgress) → p.attempts < n → IsSomeAttempt s p q → IsNear n q
attempt_near s n p q h a = by_look a.look a.attempt
  where
    by_look : (look : Result PlainSnapshot ViewFault) → IsAttemptBy s look p q → IsNear n q
    by_look (Ok t) k =
        turn_near s t n p.attempts p (turn_at (read_confs t.reads) p) q
        (turn_keeps p (inboxes_seen p.program (read_confs t.reads)) (find_conf (component.Node p.program.node) (read_confs t.reads))) h k
    by_look (Err f) k = as_near n _ q k (inl refl)

visit_near : (s : SystemParts) (n : ℕ) (p q : PlainProgress) → p.attempts < suc n → IsSomeVisit s p q → IsNear n q
visit_near s n p q h (inl v) = as_near n _ q v.1 (inl refl)
visit_near s n p q h (inr v) = attempt_near s n (one_used p) q (less p.attempts v.0 h) v.1
  where
    less : (k : ℕ) → (k ≡ 0 → ⊥) → k < suc n → k - 1 < n
    less zero some h = absurd (some refl)
    less (suc k) some h = omega (arith, h)

passed_near : (s : SystemParts) (n : ℕ) (p q : PlainProgress) → IsNear (suc n) p → IsPassedBy s p q → IsNear n q
passed_near s n p q near (inl v) = as_near n p q v.1 (inl v.0)
passed_near s n p q (inl ended) (inr v) = let none : false ≡ true = rw v.0 at ended in absurd (cc)
passed_near s n p q (inr less) (inr v) = visit_near s n p q less v.1

all_near : (s : SystemParts) (n left : ℕ) (p q : PlainProgress) → IsNear (n + left) p → ArePassed s n p q → IsNear left q
unfolding ArePassed
all_near s zero left p q near h =
    let none : zero + left ≡ left = omega arith in
    as_near left p q h (subst (λ (k : ℕ). IsNear k p) none near)
all_near s (suc n) left p q near h =
    let more : suc n + left ≡ n + suc left = omega arith in
    passed_near s left h.0 q (all_near s n (suc left) p h.0 (subst (λ (k : ℕ). IsNear k p) more near) h.1) h.2

-- visits one after another
no_visit : (s : SystemParts) (p : PlainProgress) → IsReached s p p
unfolding ArePassed
no_visit s p = record { visits = zero; passed = refl }

one_visit : (s : SystemParts) (p q : PlainProgress) → IsPassedBy s p q → IsReached s p q
unfolding ArePassed
one_visit s p q h = record { visits = suc zero; passed = (p, refl, h) }

one_visit_more : (s : SystemParts) (n : ℕ) (p m q : PlainProgress) → ArePassed s n p m → IsPassedBy s m q → ArePassed s (suc n) p q
unfolding ArePassed
one_visit_more s n p m q h k = (m, h, k)

visits_more : (s : SystemParts) (n : ℕ) (p m q : PlainProgress) → IsReached s p m → ArePassed s n m q → IsReached s p q
unfolding ArePassed
visits_more s zero p m q h k = subst (λ (z : PlainProgress). IsReached s p z) (sym k) h
visits_more s (suc n) p m q h k =
    let far = visits_more s n p m k.0 h k.1 in
    record { visits = suc far.visits; passed = (k.0, far.passed, k.2) }

-- nodes side by side
zip_so : {A B : Type 0} (R S : A → B → Type 0) → ((a : A) (b : B) → R a b → S a b) → (xs : List A) (ys : List B) → AllZip R xs ys → AllZip S xs ys
zip_so R S f [] [] h = tt
zip_so R S f [] (y ∷ ys) h = absurd h
zip_so R S f (x ∷ xs) [] h = absurd h
zip_so R S f (x ∷ xs) (y ∷ ys) h = (f x y h.0, zip_so R S f xs ys h.1)

zip_then : {A B C : Type 0} (R : A → B → Type 0) (S : B → C → Type 0) (T : A → C → Type 0) → ((a : A) (b : B) (c : C) → R a b → S b c → T a c) →
    (xs : List A) (ys : List B) (zs : List C) → AllZip R xs ys → AllZip S ys zs → AllZip T xs zs
zip_then R S T f [] [] [] h k = tt
zip_then R S T f [] [] (z ∷ zs) h k = absurd k
zip_then R S T f [] (y ∷ ys) zs h k = absurd h
zip_then R S T f (x ∷ xs) [] zs h k = absurd h
zip_then R S T f (x ∷ xs) (y ∷ ys) [] h k = absurd k
zip_then R S T f (x ∷ xs) (y ∷ ys) (z ∷ zs) h k = (f x y z h.0 k.0, zip_then R S T f xs ys zs h.1 k.1)

zip_append : {A B : Type 0} (R : A → B → Type 0) (xs : List A) (ys : List B) (vs : List A) (ws : List B) → AllZip R xs ys → AllZip R vs ws → AllZip R (xs ++ vs) (ys ++ ws)
zip_append R [] [] vs ws h k = k
zip_append R [] (y ∷ ys) vs ws h k = absurd h
zip_append R (x ∷ xs) [] vs ws h k = absurd h
zip_append R (x ∷ xs) (y ∷ ys) vs ws h k = (h.0, zip_append R xs ys vs ws h.1 k)

zip_same : {A : Type 0} (R : A → A → Type 0) → ((a : A) → R a a) → (xs : List A) → AllZip R xs xs
zip_same R f [] = tt
zip_same R f (x ∷ xs) = (f x, zip_same R f xs)

-- a round of these nodes under way: so many have had their visit, and the others are as they were
pub record IsInPassing (s : SystemParts) (i : ℕ) (ps gone left : List PlainProgress) : Type 0 where
  pub passed : AllZip (IsPassedBy s) (take i ps) gone
  pub others : left ≡ drop i ps

pub passing_begins : (s : SystemParts) (ps : List PlainProgress) → IsInPassing s 0 ps [] ps
passing_begins s ps = record { passed = tt; others = refl }

module _ {V : Type 0} (f : V → PlainProgress) (nodes : List V) (i : ℕ) (v w : V) (s : SystemParts) (ps : List PlainProgress) (within : i < length nodes)
    (h : IsInPassing s i ps (map f (take i nodes)) (map f (drop i nodes))) where
  abbrev here : PlainProgress
  here = f (get_or nodes i v)

  abbrev before : List PlainProgress
  before = map f (take i nodes)

  abbrev behind : List PlainProgress
  behind = map f (drop (i + 1) nodes)

  gone : map f (take (i + 1) (slice_set nodes i w)) ≡ before ++ f w ∷ []
  gone = ap (λ (l : List V). map f l) (take_more_set nodes i w within) ∙ map-append f (take i nodes) (w ∷ [])

  still : map f (drop (i + 1) (slice_set nodes i w)) ≡ behind
  still = ap (λ (l : List V). map f l) (drop-set-lt (i + 1) nodes i w (omega arith))

  head : here ∷ behind ≡ drop i ps
  head = sym (ap (λ (l : List V). map f l) (drop_more nodes i v within)) ∙ h.others

  -- one visit more
  pub passing_goes_on : IsPassedBy s here (f w) → IsInPassing s (i + 1) ps (map f (take (i + 1) (slice_set nodes i w))) (map f (drop (i + 1) (slice_set nodes i w)))
  passing_goes_on one =
      let next : i + 1 ≡ suc i = omega arith in
      let begun : take (i + 1) ps ≡ take i ps ++ here ∷ [] = ap (λ (n : ℕ). take n ps) next ∙ next_taken i ps here behind head in
      record {
        passed =
            subst (λ (l : List PlainProgress). AllZip (IsPassedBy s) l (map f (take (i + 1) (slice_set nodes i w)))) (sym begun)
            (subst (λ (l : List PlainProgress). AllZip (IsPassedBy s) (take i ps ++ here ∷ []) l) (sym gone)
            (zip_append (IsPassedBy s) (take i ps) before (here ∷ []) (f w ∷ []) h.passed (one, tt)));
        others = still ∙ next_dropped i ps here behind head ∙ ap (λ (n : ℕ). drop n ps) (sym next);
      }

  -- or memory runs out in it
  pub passing_stops : (f w).ending ≡ None → AllZip (IsLeft s) ps (map f (slice_set nodes i w))
  passing_stops none =
      let parts : map f (slice_set nodes i w) ≡ before ++ f w ∷ behind =
      ap (λ (l : List V). map f l) (sym (take-append-drop (i + 1) (slice_set nodes i w)))
      ∙ map-append f (take (i + 1) (slice_set nodes i w)) (drop (i + 1) (slice_set nodes i w))
      ∙ (λ j. gone j ++ still j)
      ∙ append_assoc before (f w ∷ []) behind in
      let whole : take i ps ++ here ∷ behind ≡ ps = ap (λ (l : List PlainProgress). take i ps ++ l) head ∙ take-append-drop i ps in
      subst (λ (l : List PlainProgress). AllZip (IsLeft s) l (map f (slice_set nodes i w))) whole
      (subst (λ (l : List PlainProgress). AllZip (IsLeft s) (take i ps ++ here ∷ behind) l) (sym parts)
      (zip_append (IsLeft s) (take i ps) before (here ∷ behind) (f w ∷ behind)
      (zip_so (IsPassedBy s) (IsLeft s) (λ p q k. inr (one_visit s p q k)) (take i ps) before h.passed)
      (inl none, zip_same (IsLeft s) (λ p. inr (no_visit s p)) behind)))

-- behind the last node
pub passing_ends : {V : Type 0} (f : V → PlainProgress) (nodes : List V) (i : ℕ) (s : SystemParts) (ps : List PlainProgress) → length nodes ≤ i →
    IsInPassing s i ps (map f (take i nodes)) (map f (drop i nodes)) → AllZip (IsPassedBy s) ps (map f nodes)
passing_ends {V} f nodes i s ps past h =
    let none : [] ≡ drop i ps = sym (ap (λ (l : List V). map f l) (drop_all i nodes past)) ∙ h.others in
    subst (λ (l : List PlainProgress). AllZip (IsPassedBy s) l (map f nodes)) (all_taken i ps none)
    (subst (λ (l : List V). AllZip (IsPassedBy s) (take i ps) (map f l)) (take_all i nodes past) h.passed)

-- rounds of nodes
module _ (s : SystemParts) where
  pub rounds_none : (ps : List PlainProgress) → AllZip (ArePassed s 0) ps ps
  unfolding ArePassed
  rounds_none ps = zip_same (ArePassed s 0) (λ p. refl) ps

  pub round_more : (n k : ℕ) (ps ms qs : List PlainProgress) → n + 1 ≡ k → AllZip (ArePassed s n) ps ms → AllZip (IsPassedBy s) ms qs → AllZip (ArePassed s k) ps qs
  round_more n k ps ms qs next h one =
      let same : suc n ≡ k = omega (arith, next) in
      subst (λ (m : ℕ). AllZip (ArePassed s m) ps qs) same
      (zip_then (ArePassed s n) (IsPassedBy s) (ArePassed s (suc n)) (λ p m q. one_visit_more s n p m q) ps ms qs h one)

  pub rounds_left : (n : ℕ) (ps ms qs : List PlainProgress) → AllZip (ArePassed s n) ps ms → AllZip (IsLeft s) ms qs → AllZip (IsLeft s) ps qs
  rounds_left n ps ms qs h k = zip_then (ArePassed s n) (IsLeft s) (IsLeft s) each ps ms qs h k
    where
      each : (p m q : PlainProgress) → ArePassed s n p m → IsLeft s m q → IsLeft s p q
      each p m q earlier (inl none) = inl none
      each p m q earlier (inr far) = inr (visits_more s far.visits p m q (record { visits = n; passed = earlier }) far.passed)

  -- each node has an ending
  pub rounds_over : (n : ℕ) (ps qs : List PlainProgress) → AllZip (ArePassed s n) ps qs → list_all has_ended qs ≡ true → AllZip (IsOver s) ps qs
  rounds_over n [] [] h all = tt
  rounds_over n [] (q ∷ qs) h all = absurd h
  rounds_over n (p ∷ ps) [] h all = absurd h
  rounds_over n (p ∷ ps) (q ∷ qs) h all = at_head (is_some q.ending) refl (λ others. rounds_over n ps qs h.1 others)
    where
      at_head : (b : Bool) → is_some q.ending ≡ b → (list_all has_ended qs ≡ true → AllZip (IsOver s) ps qs) → AllZip (IsOver s) (p ∷ ps) (q ∷ qs)
      at_head true e more = (record { reached = record { visits = n; passed = h.0 }; ended = e }, more (rw e at all))
      at_head false e more =
          let no : false ≡ true = rw e at all in
          absurd (cc)

  -- or no attempt is left
  pub rounds_enough : (attempts n : ℕ) (ps qs : List PlainProgress) → n ≡ attempts + 1 → AllByRecursion (HasAtMost attempts) ps → AllZip (ArePassed s n) ps qs → AllZip (IsOver s) ps qs
  rounds_enough attempts n [] [] enough few h = tt
  rounds_enough attempts n [] (q ∷ qs) enough few h = absurd h
  rounds_enough attempts n (p ∷ ps) [] enough few h = absurd h
  rounds_enough attempts n (p ∷ ps) (q ∷ qs) enough few h =
      let less : p.attempts < n + 0 = omega (arith, enough, few.0) in
      (record { reached = record { visits = n; passed = h.0 }; ended = ended (all_near s n 0 p q (inr less) h.0) }, rounds_enough attempts n ps qs enough few.1 h.1)
    where
      ended : IsNear 0 q → is_some q.ending ≡ true
      ended (inl e) = e
      ended (inr less) = absurd (omega (arith, less))

  -- the last round
  pub last_over : {X E : Type 0} (r : Result X E) (attempts n : ℕ) (ps ms qs : List PlainProgress) → n + 1 ≡ attempts + 1 → AllByRecursion (HasAtMost attempts) ps →
      AllZip (ArePassed s n) ps ms → OnOk r (AllZip (IsPassedBy s) ms qs) → OnOk r (AllZip (IsOver s) ps qs)
  last_over (Ok x) attempts n ps ms qs enough few h one = rounds_enough attempts (n + 1) ps qs enough few (round_more n (n + 1) ps ms qs refl h one)
  last_over (Err e) attempts n ps ms qs enough few h one = tt

  pub last_left : {X E : Type 0} (r : Result X E) (n : ℕ) (ps ms qs : List PlainProgress) → AllZip (ArePassed s n) ps ms → OnErr r (AllZip (IsLeft s) ms qs) → OnErr r (AllZip (IsLeft s) ps qs)
  last_left (Ok x) n ps ms qs h left = tt
  last_left (Err e) n ps ms qs h left = rounds_left n ps ms qs h left

  -- want of memory ends those that have no ending
  pub left_ended : (ps qs : List PlainProgress) → AllZip (IsLeft s) ps qs → AllZip (IsEnded s) ps (map short_of_memory qs)
  left_ended [] [] h = tt
  left_ended [] (q ∷ qs) h = absurd h
  left_ended (p ∷ ps) [] h = absurd h
  left_ended (p ∷ ps) (q ∷ qs) h = (by_ending q.ending refl h.0, left_ended ps qs h.1)
    where
      by_ending : (o : Option Ending) → q.ending ≡ o → IsLeft s p q → IsEnded s p (short_of_memory q)
      by_ending None e left = inl (rw e refl)
      by_ending (Some x) e (inl none) = absurd (cc)
      by_ending (Some x) e (inr far) =
          let same : short_of_memory q ≡ q = rw e refl in
          let has : is_some q.ending ≡ true = rw e refl in
          subst (λ (z : PlainProgress). IsEnded s p z) (sym same) (inr (record { reached = far; ended = has }))

  pub over_ended : (ps qs : List PlainProgress) → AllZip (IsOver s) ps qs → AllZip (IsEnded s) ps qs
  over_ended ps qs h = zip_so (IsOver s) (IsEnded s) (λ p q k. inr k) ps qs h

-- nodes that are met
module _ (s : SystemParts) (attempts : ℕ) where
  met_few : (p q : PlainProgress) → p.attempts ≤ attempts → IsMet s p q → q.attempts ≤ attempts
  met_few p q few (inl same) = subst (λ (z : PlainProgress). z.attempts ≤ attempts) (sym same) few
  met_few p q few (inr h) = by_look h.look h.met
    where
      kept : (o : Option NodeFault) → (ended_by o p p).attempts ≤ attempts
      kept None = few
      kept (Some f) = few

      by_look : (look : Result PlainSnapshot ViewFault) → IsMetBy look p q → q.attempts ≤ attempts
      by_look (Ok t) k = subst (λ (z : PlainProgress). z.attempts ≤ attempts) (sym k) (kept (fault_of_conf p.program (find_conf (component.Node p.program.node) (read_confs t.reads))))
      by_look (Err f) k = subst (λ (z : PlainProgress). z.attempts ≤ attempts) (sym k) few

  pub begun_by : (programs : List Parts) (p : Parts) (number : ℤ) (first : PlainProgress) → number ≡ p.node → program_of p.node programs ≡ Some p → IsMet s (progress_at attempts p) first → IsBegun s attempts programs number first
  begun_by programs p number first same own met = record {
    program = p;
    own = ap (λ (k : ℤ). program_of k programs) same ∙ own;
    met = met;
  }

  -- the ending of a node that was not visited
  unvisited : (o : Option Parts) → IsEndingOf s attempts o (ending_unvisited o)
  unvisited None = refl
  unvisited (Some p) = inl refl

  module _ {O : Type 0} {g : Origin.Ghosts O} (programs : List Parts) where
    pub begun_few : (nodes : List (Visited O g)) → AreBegun s attempts programs nodes → AllByRecursion (HasAtMost attempts) (map progress_in nodes)
    begun_few [] h = tt
    begun_few (n ∷ more) h = (met_few (progress_at attempts h.0.program) (progress_in n) (omega arith) h.0.met, begun_few more h.1)

    pub begun_more : (nodes : List (Visited O g)) (n : Visited O g) → AreBegun s attempts programs nodes → IsBegun s attempts programs n.number (progress_in n) → AreBegun s attempts programs (nodes ++ n ∷ [])
    begun_more [] n h k = (k, tt)
    begun_more (m ∷ more) n h k = (h.0, begun_more more n h.1 k)

    -- the ending of a node at the end
    worked : (before after : Visited O g) → after.number ≡ before.number → IsBegun s attempts programs before.number (progress_in before) → IsEnded s (progress_in before) (progress_in after) →
        IsEndingOf s attempts (program_of after.number programs) (ending_of (progress_in after))
    worked before after same begun ended =
        subst (λ (o : Option Parts). IsEndingOf s attempts o (ending_of (progress_in after))) (sym (ap (λ (k : ℤ). program_of k programs) same ∙ begun.own)) (of_program ended)
      where
        by_ending : IsReached s (progress_in before) (progress_in after) → (o : Option Ending) → (progress_in after).ending ≡ o → is_some o ≡ true → IsOwnEnding s attempts begun.program (unwrap_or o Spent)
        by_ending far None e has = absurd (cc)
        by_ending far (Some x) e has = record { first = progress_in before; met = begun.met; last = progress_in after; reached = far; ended = e }

        of_program : IsEnded s (progress_in before) (progress_in after) → IsEndingOf s attempts (Some begun.program) (ending_of (progress_in after))
        of_program (inl short) = inl (ap (λ (o : Option Ending). unwrap_or o Spent) short)
        of_program (inr over) = inr (by_ending over.reached (progress_in after).ending refl over.ended)

    abbrev HasEnding : Visited O g → Type 0
    HasEnding n = IsEndingOf s attempts (program_of n.number programs) (ending_of (progress_in n))

    all_worked : (before after : List (Visited O g)) → AreBegun s attempts programs before → numbers_of after ≡ numbers_of before → AllZip (IsEnded s) (map progress_in before) (map progress_in after) → AllByRecursion HasEnding after
    all_worked [] [] begun numbers ended = tt
    all_worked [] (a ∷ after) begun numbers ended = absurd ended
    all_worked (b ∷ before) [] begun numbers ended = tt
    all_worked (b ∷ before) (a ∷ after) begun numbers ended =
        let first : a.number ≡ b.number = cc in
        let others : numbers_of after ≡ numbers_of before = cc in
        (worked b a first begun.0 ended.0, all_worked before after begun.1 others ended.1)

    -- the ending that is found by a number
    found : (nodes : List (Visited O g)) (k : ℤ) → AllByRecursion HasEnding nodes → IsEndingOf s attempts (program_of k programs) (ending_at programs nodes k)
    found [] k h = unvisited (program_of k programs)
    found (n ∷ more) k h = by_number (int_eq n.number k) refl (found more k h.1)
      where
        by_number : (b : Bool) → int_eq n.number k ≡ b → IsEndingOf s attempts (program_of k programs) (ending_at programs more k) → IsEndingOf s attempts (program_of k programs) (ending_at programs (n ∷ more) k)
        by_number true e others =
            let same : n.number ≡ k = (Decides-int_eq n.number k).0 e in
            let first : ending_at programs (n ∷ more) k ≡ ending_of (progress_in n) = rw e refl in
            subst (λ (x : Ending). IsEndingOf s attempts (program_of k programs) x) (sym first)
            (subst (λ (j : ℤ). IsEndingOf s attempts (program_of j programs) (ending_of (progress_in n))) same h.0)
        by_number false e others =
            let later : ending_at programs (n ∷ more) k ≡ ending_at programs more k = rw e refl in
            subst (λ (x : Ending). IsEndingOf s attempts (program_of k programs) x) (sym later) others

    -- what a worker tells of its nodes
    pub all_told : (before lent after seen : List (Visited O g)) (nodes : List ℤ) (endings : List Ending) → AreBegun s attempts programs before → lent ≡ before → numbers_of after ≡ numbers_of lent →
        AllZip (IsEnded s) (map progress_in lent) (map progress_in after) → seen ≡ after → endings ≡ map (ending_at programs seen) nodes → AreEndingsOf s attempts programs nodes endings
    all_told before lent after seen nodes endings begun lending numbers ended seeing each i k e at told =
        let all : AllByRecursion HasEnding after = all_worked before after begun (numbers ∙ ap numbers_of lending) (subst (λ (l : List (Visited O g)). AllZip (IsEnded s) (map progress_in l) (map progress_in after)) lending ended) in
        let here : slice_get endings i ≡ Some (ending_at programs seen k) =
        ap (λ (es : List Ending). slice_get es i) each
        ∙ slice_get-map (ending_at programs seen) nodes i
        ∙ ap (λ (o : Option ℤ). option_map (ending_at programs seen) o) at in
        let both : Some (ending_at programs seen k) ≡ Some e = sym here ∙ told in
        let same : ending_at programs seen k ≡ e = cc in
        subst (λ (x : Ending). IsEndingOf s attempts (program_of k programs) x) same
        (subst (λ (l : List (Visited O g)). IsEndingOf s attempts (program_of k programs) (ending_at programs l k)) (sym seeing) (found after k all))
