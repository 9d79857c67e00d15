-- A fire that is proposed and committed on a fresh look is one on the present configurations.
use Rattle.std.proofs.Common.{◌≡◌, ℕ, ℤ, Bool, true, false, List, Some, None, Result, Ok, Err, if◌then◌else◌, refl, sym, ap, subst, ◌∙◌, length}
use Rattle.std.specs.Prelude.{nat_lt}
use Rattle.std.specs.Ordering.{int_eq}
use Rattle.std.proofs.lemmas.Bool.Decides.{Decides-int_eq}
use Rattle.ioa_values.specs.Outcome.{and_then}
use Rattle.ioa_actions.specs.ActionParts.{node_of}
use Rattle.ioa_actions.specs.declared.action.Action.{Action}
use Rattle.ioa_actions.specs.declared.fault.StepFault.{StepFault}
use Rattle.ioa_actions.specs.declared.fault.StepFault.TheVariants as step
use Rattle.ioa_transitions.specs.Entries.{PlainEntry}
use Rattle.ioa_compose.specs.Composition.{find_confs, joint_answer, joint_pick, picks_of, put_confs}
use Rattle.ioa_compose.specs.Participants.{participants_of}
use Rattle.ioa_compose.specs.declared.configuration.Conf.{Conf}
use Rattle.ioa_compose.proofs.Picks.{joint_pick-entry, picks_of-entry}
use Rattle.ioa_commits.specs.Books.{PlainBook, states_held}
use Rattle.ioa_book.specs.Looks.{IsLookAt, PlainSnapshot, snapshot_after}
use Rattle.ioa_commits.specs.Commits.{IsCommitted, IsRefused, full, refusal_of}
use Rattle.ioa_commits.specs.Proposals.{PlainProposal, plain_proposal}
use Rattle.ioa_commits.specs.Versions.{read_confs}
use Rattle.ioa_book.specs.Proposals.{proposal_answer, reads_at, reads_held, step_answer}
use Rattle.ioa_commits.specs.declared.outcome.CommitRefusal.{CommitRefusal}
use Rattle.ioa_commits.specs.declared.outcome.CommitRefusal.TheVariants as refusal
use Rattle.ioa_book.proofs.FreshLooks.{fresh_proposal, held_stands}
use Rattle.ioa_record.specs.declared.ending.NodeFault.TheVariants.{Full}
use Rattle.ioa_solo.specs.Attempts.{fire_answer, step_outcome, taken}

-- a proposal on a fresh look that is made: the action is the node's, the participants pick an entry, and what was read
-- is what the book holds
record IsMade (b : PlainBook) (n : ℤ) (a : Action) (p : PlainProposal) : Type 0 where
  mine : int_eq (node_of a) n ≡ true
  entry : PlainEntry
  changed : List Conf
  picks : picks_of a (find_confs (participants_of a) (states_held b)) ≡ Ok (entry, changed)
  proposal : p ≡ plain_proposal entry (length b.log) (reads_held b (participants_of a))

-- a proposal is of an action of the node that was looked at, whatever the look shows
pub proposed_node : (a : Action) (s : PlainSnapshot) (x : PlainProposal) → proposal_answer a s ≡ Ok x → node_of x.entry.action ≡ s.node
proposed_node a s x h = by_mine (int_eq (node_of a) s.node) refl h
  where
    by_picks : (r : Result (PlainEntry × List Conf) StepFault) → picks_of a (find_confs (participants_of a) (read_confs s.reads)) ≡ r →
        and_then r (λ t. Ok (plain_proposal t.0 s.length (reads_at (participants_of a) s.reads))) ≡ Ok x → x.entry.action ≡ a
    by_picks (Ok t) e g =
        let same : plain_proposal t.0 s.length (reads_at (participants_of a) s.reads) ≡ x = cc in
        ap (λ (p : PlainProposal). p.entry.action) (sym same) ∙ (picks_of-entry a (find_confs (participants_of a) (read_confs s.reads)) t.0 t.1 e).0
    by_picks (Err f) e g = absurd (cc)

    by_mine : (t : Bool) → int_eq (node_of a) s.node ≡ t → (if t then step_answer a s else Err step.NotMine) ≡ Ok x → node_of x.entry.action ≡ s.node
    by_mine true e g =
        ap node_of (by_picks (picks_of a (find_confs (participants_of a) (read_confs s.reads))) refl g)
        ∙ (Decides-int_eq (node_of a) s.node).0 e
    by_mine false e g = absurd (cc)

-- one result has one fault
same_fault : (e f : StepFault) (r : Result PlainProposal StepFault) → r ≡ Err e → r ≡ Err f → e ≡ f
same_fault e f r h k = cc

-- one result has one value
same_confs : (r : Result (List Conf) StepFault) (cs ds : List Conf) → r ≡ Ok cs → r ≡ Ok ds → cs ≡ ds
same_confs r cs ds h k = cc

-- what is picked, in the configurations that a book holds
abbrev put_picked : PlainBook → PlainEntry × List Conf → Result (PlainEntry × List Conf) StepFault
put_picked b t = Ok (t.0, put_confs t.1 (states_held b))

module _ (b : PlainBook) (n : ℤ) (a : Action) where
  abbrev picks : Result (PlainEntry × List Conf) StepFault
  picks = picks_of a (find_confs (participants_of a) (states_held b))

  abbrev fresh_plain : PlainEntry → PlainProposal
  fresh_plain e = plain_proposal e (length b.log) (reads_held b (participants_of a))

  -- what a node fires by its proposal
  fault_of_fresh : (f : StepFault) → proposal_answer a (snapshot_after n b.start b.log) ≡ Err f → fire_answer b.limit b.log (states_held b) n a ≡ step_outcome b.limit b.log (Err f)
  fault_of_fresh f h = by_mine (int_eq (node_of a) n) refl
    where
      by_picks : (r : Result (PlainEntry × List Conf) StepFault) → and_then r (λ t. Ok (fresh_plain t.0)) ≡ Err f → and_then r (put_picked b) ≡ Err f
      by_picks (Ok t) g = absurd (cc)
      by_picks (Err e) g = let same : e ≡ f = cc in ap (λ (x : StepFault). Err x) same

      by_mine : (t : Bool) → int_eq (node_of a) n ≡ t → fire_answer b.limit b.log (states_held b) n a ≡ step_outcome b.limit b.log (Err f)
      by_mine true e =
          let joint : joint_pick a (states_held b) ≡ Err f = by_picks picks (sym (fresh_proposal b n a e) ∙ h) in
          rw (e, joint) refl
      by_mine false e =
          let not_mine : proposal_answer a (snapshot_after n b.start b.log) ≡ Err step.NotMine = rw e refl in
          let same : step.NotMine ≡ f = same_fault step.NotMine f (proposal_answer a (snapshot_after n b.start b.log)) not_mine h in
          rw (e, ← same) refl

  made : (p : PlainProposal) → proposal_answer a (snapshot_after n b.start b.log) ≡ Ok p → IsMade b n a p
  made p h = by_mine (int_eq (node_of a) n) refl
    where
      by_picks : (r : Result (PlainEntry × List Conf) StepFault) → picks ≡ r → int_eq (node_of a) n ≡ true → and_then r (λ t. Ok (fresh_plain t.0)) ≡ Ok p → IsMade b n a p
      by_picks (Ok t) e mine g =
          let same : fresh_plain t.0 ≡ p = cc in
          record { mine = mine; entry = t.0; changed = t.1; picks = e; proposal = sym same }
      by_picks (Err f) e mine g = absurd (cc)

      by_mine : (t : Bool) → int_eq (node_of a) n ≡ t → IsMade b n a p
      by_mine true e = by_picks picks refl e (sym (fresh_proposal b n a e) ∙ h)
      by_mine false e = let bad = rw e at h in absurd (cc)

-- a fire of which the action is proposed
module _ (b : PlainBook) (n : ℤ) (a : Action) (s : PlainSnapshot) (fresh : IsLookAt b n s) where
  -- a fault
  pub fault_told : (f : StepFault) → proposal_answer a s ≡ Err f → fire_answer b.limit b.log (states_held b) n a ≡ step_outcome b.limit b.log (Err f)
  fault_told f h = fault_of_fresh b n a f (rw fresh at h)

  module _ (p : PlainProposal) (proposed : proposal_answer a s ≡ Ok p) where
    is_made : IsMade b n a p
    is_made = made b n a p (rw fresh at proposed)

    proposed_entry : p.entry ≡ is_made.entry
    proposed_entry = ap (λ (q : PlainProposal). q.entry) is_made.proposal

    -- the proposal is of the action
    pub proposed_action : p.entry.action ≡ a
    proposed_action =
        ap (λ (e : PlainEntry). e.action) proposed_entry
        ∙ (picks_of-entry a (find_confs (participants_of a) (states_held b)) is_made.entry is_made.changed is_made.picks).0

    pub proposed_own : proposal_answer p.entry.action s ≡ Ok p
    proposed_own = subst (λ (x : Action). proposal_answer x s ≡ Ok p) (sym proposed_action) proposed

    stands : refusal_of b p.reads ≡ full b
    stands = rw (is_made.proposal) (held_stands b (participants_of a))

    joint_made : joint_pick a (states_held b) ≡ Ok (is_made.entry, put_confs is_made.changed (states_held b))
    joint_made = rw (is_made.picks) refl

    by_room : (t : Bool) → nat_lt (length b.log) b.limit ≡ t → full b ≡ (if t then None else Some refusal.Full)
    by_room t e = rw e refl

    -- that is committed
    pub committed_told : (index : ℕ) (handed_out : PlainEntry) (new : PlainBook) → IsCommitted b p index handed_out new → fire_answer b.limit b.log (states_held b) n a ≡ Ok (taken handed_out (states_held new))
    committed_told index handed_out new h = at_room (nat_lt (length b.log) b.limit) refl
      where
        entry : is_made.entry ≡ handed_out
        entry = sym proposed_entry ∙ sym h.entry

        step_made : joint_answer is_made.entry (states_held b) ≡ Ok (put_confs is_made.changed (states_held b))
        step_made = (joint_pick-entry a (states_held b) is_made.entry (put_confs is_made.changed (states_held b)) joint_made).1

        step_taken : joint_answer is_made.entry (states_held b) ≡ Ok (states_held new)
        step_taken = subst (λ (e : PlainEntry). joint_answer e (states_held b) ≡ Ok (states_held new)) proposed_entry h.step

        left : put_confs is_made.changed (states_held b) ≡ states_held new
        left = same_confs (joint_answer is_made.entry (states_held b)) (put_confs is_made.changed (states_held b)) (states_held new) step_made step_taken

        joint : joint_pick a (states_held b) ≡ Ok (handed_out, states_held new)
        joint = joint_made ∙ (λ i. Ok (entry i, left i))

        at_room : (t : Bool) → nat_lt (length b.log) b.limit ≡ t → fire_answer b.limit b.log (states_held b) n a ≡ Ok (taken handed_out (states_held new))
        at_room true e = rw (is_made.mine, joint, e) refl
        at_room false e = let bad : None ≡ Some refusal.Full = sym h.accepted ∙ stands ∙ by_room false e in absurd (cc)

    -- that is refused: only a full book refuses it
    pub refused_for : (why : CommitRefusal) (back : PlainProposal) (new : PlainBook) → IsRefused b p why back new → why ≡ refusal.Full
    refused_for why back new h = at_room (nat_lt (length b.log) b.limit) (sym stands ∙ h.reason)
      where
        at_room : (t : Bool) → (if t then None else Some refusal.Full) ≡ Some why → why ≡ refusal.Full
        at_room true e = absurd (cc)
        at_room false e = cc

    pub full_told : (why : CommitRefusal) (back : PlainProposal) (new : PlainBook) → IsRefused b p why back new → fire_answer b.limit b.log (states_held b) n a ≡ Err Full
    full_told why back new h = at_room (nat_lt (length b.log) b.limit) refl (sym stands ∙ h.reason)
      where
        at_room : (t : Bool) → nat_lt (length b.log) b.limit ≡ t → (if t then None else Some refusal.Full) ≡ Some why → fire_answer b.limit b.log (states_held b) n a ≡ Err Full
        at_room true e g = absurd (cc)
        at_room false e g = rw (is_made.mine, joint_made, e) refl
