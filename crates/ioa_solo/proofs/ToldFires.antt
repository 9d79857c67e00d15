-- What a worker commits on a book that its board tells is fired on the book as it is.
use Rattle.std.proofs.Common.{◌≡◌, ◌⊎◌, inl, inr, ◌++◌, ◌∷◌, [], ℕ, ℤ, false, Some, None, Result, Ok, Err, refl, sym, ap, ◌∙◌, length}
use Rattle.std.specs.Prelude.{IfOk, OnOk, nat_lt}
use Rattle.std.proofs.lemmas.Bool.{le-ltb}
use Rattle.ioa_actions.specs.declared.action.Action.{Action}
use Rattle.ioa_actions.specs.declared.fault.StepFault.{StepFault}
use Rattle.ioa_actions.specs.declared.fault.StepFault.TheVariants as step
use Rattle.ioa_transitions.specs.Entries.{PlainEntry}
use Rattle.ioa_commits.specs.Books.{PlainBook, states_held}
use Rattle.ioa_commits.specs.Proposals.{PlainProposal}
use Rattle.ioa_commits.specs.declared.outcome.CommitRefusal.{CommitRefusal}
use Rattle.ioa_commits.specs.declared.outcome.CommitRefusal.TheVariants as refusal
use Rattle.ioa_book.specs.Looks.{IsLookAt, PlainSnapshot, snapshot_after}
use Rattle.ioa_book.specs.Proposals.{proposal_answer}
use Rattle.ioa_record.specs.declared.ending.NodeFault.{NodeFault}
use Rattle.ioa_held.specs.Attempts.{IsMissed, IsTaken}
use Rattle.ioa_shared.specs.SomeBook.{TakesInSome}
use Rattle.ioa_passes.specs.Passes.{PlainPass, risen_by_refusal}
use Rattle.ioa_held.specs.declared.outcome.Miss.{Miss}
use Rattle.ioa_held.specs.declared.outcome.Miss.TheVariants as miss
use Rattle.ioa_turns.specs.Faults.{fault_of_step}
use Rattle.ioa_turns.specs.NodeTurns.{PlainProgress, past_fire}
use Rattle.ioa_system.specs.Systems.{SystemParts}
use Rattle.ioa_solo.specs.Attempts.{PlainFireOutcome, fire_answer, missed, taken, unless}
use Rattle.ioa_solo.specs.Fires.{IsAfterFire, IsProposedIn, failed_by, missed_by, refused_by}
use Rattle.ioa_solo.specs.Solo.{PlainCourse, after_fire, course_of}
use Rattle.ioa_solo.specs.Told.{IsUpTo}
use Rattle.ioa_solo.proofs.FreshFires.{committed_told, fault_told, full_told, proposed_action, proposed_own, refused_for}

-- what follows from what a call has done, where it has
pub on_map : {X E : Type 0} {P Q : Type 0} (r : Result X E) → (P → Q) → OnOk r P → OnOk r Q
on_map (Ok x) f h = f h
on_map (Err e) f h = tt

pub on_both : {X E : Type 0} {P Q R : Type 0} (r : Result X E) → (P → Q → R) → OnOk r P → OnOk r Q → OnOk r R
on_both (Ok x) f h k = f h k
on_both (Err e) f h k = tt

-- a proposal on a look at the book as it is
module _ (b : PlainBook) (n : ℤ) (a : Action) (s : PlainSnapshot) (fresh : IsLookAt b n s) (x : PlainProposal) (h : proposal_answer a s ≡ Ok x) where
  pub proposed_in : IsProposedIn b n x
  proposed_in = rw fresh at (proposed_own b n a s fresh x h)

  pub proposed_for : x.entry.action ≡ a
  proposed_for = proposed_action b n a s fresh x h

module _ (old : PlainBook) (p : PlainProgress) (x : PlainProposal) (proposed : IsProposedIn old p.program.node x) where
  -- the look that it was made on
  abbrev seen : PlainSnapshot
  seen = snapshot_after p.program.node old.start old.log

  -- its commit
  pub taken_comes : (new : PlainBook) (before after : PlainPass) (i : ℕ) (e : PlainEntry) → IsTaken old x before i e new after → IsAfterFire old p x.entry.action new (past_fire p)
  taken_comes new before after i e h =
      let told : fire_answer old.limit old.log (states_held old) p.program.node x.entry.action ≡ Ok (taken e (states_held new)) = committed_told old p.program.node x.entry.action seen refl x proposed i e new h.commit in
      let grown : old.log ++ e ∷ [] ≡ new.log = ap (λ (y : PlainEntry). old.log ++ y ∷ []) h.commit.entry ∙ sym (ap (λ (b : PlainBook). b.log) h.commit.recorded) in
      let left : PlainCourse = record { schedule = old.log ++ e ∷ []; states = states_held new } in
      let after_it : after_fire (fire_answer old.limit old.log (states_held old) p.program.node x.entry.action) (course_of old) p ≡ (left, past_fire p) = ap (λ (r : Result PlainFireOutcome NodeFault). after_fire r (course_of old) p) told in
      after_it ∙ (λ j. (record { schedule = grown j; states = states_held new }, past_fire p))

  -- why it is missed: the book is full, so nothing has changed
  pub missed_comes : (new : PlainBook) (before after : PlainPass) (why : Miss) → IsUpTo old before → IsMissed old x before why x new after →
      (new ≡ old) × (after ≡ before) × IsAfterFire old p x.entry.action old (missed_by why p)
  missed_comes new before after (miss.Older o) up h =
      let long : nat_lt (length old.log) before.length ≡ false = le-ltb (length old.log) before.length up.log in
      let bad : None ≡ Some o = rw long at h.older in
      absurd (cc)
  missed_comes new before after (miss.Refused why) up h =
      let full : why ≡ refusal.Full = refused_for old p.program.node x.entry.action seen refl x proposed why x new h.commit in
      let told = full_told old p.program.node x.entry.action seen refl x proposed why x new h.commit in (
        h.commit.unchanged,
        h.pass ∙ ap (λ (w : CommitRefusal). risen_by_refusal w before) full,
        ap (λ (r : Result PlainFireOutcome NodeFault). after_fire r (course_of old) p) told
            ∙ ap (λ (w : CommitRefusal). (course_of old, refused_by w p)) (sym full),
      )

-- what is committed is the proposal's entry, whichever book it is
pub entry_taken : {X E : Type 0} (s : SystemParts) (r : Result X E) (index : X → ℕ) (entry : X → PlainEntry) (x : PlainProposal) (p q : PlainPass) → IfOk r (λ t. TakesInSome s x p (index t) (entry t) q) → IfOk r (λ t. entry t ≡ x.entry)
entry_taken s (Ok t) index entry x p q h = h.taken.commit.entry
entry_taken s (Err e) index entry x p q h = tt

-- the proposal that is handed back is the one that was handed in
pub missed_same : (old : PlainBook) (x back : PlainProposal) (before : PlainPass) (why : Miss) (new : PlainBook) (after : PlainPass) → IsMissed old x before why back new after → IsMissed old x before why x new after
missed_same old x back before (miss.Older o) new after h = record { older = h.older; handed_back = refl; unchanged = h.unchanged; pass = h.pass }
missed_same old x back before (miss.Refused why) new after h = record {
  current = h.current;
  commit = record { reason = h.commit.reason; handed_back = refl; unchanged = h.commit.unchanged };
  pass = h.pass;
}

-- a fault of the step
by_fault : (f : StepFault) (s : PlainCourse) (p : PlainProgress) → after_fire (unless (fault_of_step f) missed) s p ≡ (s, failed_by f p)
by_fault step.NotEnabled s p = refl
by_fault step.Undefined s p = refl
by_fault step.Range s p = refl
by_fault step.Memory s p = refl
by_fault step.NotMine s p = refl
by_fault step.NoChannel s p = refl
by_fault step.NoChoice s p = refl

pub failed_comes : (old : PlainBook) (p : PlainProgress) (a : Action) (s : PlainSnapshot) (f : StepFault) → IsLookAt old p.program.node s → (f ≡ step.Memory → ⊥) →
    (f ≡ step.Memory) ⊎ (proposal_answer a s ≡ Err f) → IsAfterFire old p a old (failed_by f p)
failed_comes old p a s f fresh real (inl e) = absurd (real e)
failed_comes old p a s f fresh real (inr e) =
    ap (λ (r : Result PlainFireOutcome NodeFault). after_fire r (course_of old) p) (fault_told old p.program.node a s fresh f e)
    ∙ by_fault f (course_of old) p
