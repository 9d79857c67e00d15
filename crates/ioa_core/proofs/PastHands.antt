-- What hands hold is of the book's past, and stays so.
use Rattle.std.proofs.Common.{◌≡◌, Bool, true, false, List, [], ◌∷◌, ◌++◌, Result, Ok, Err, if◌then◌else◌, refl, sym, ap, subst, ◌∙◌, take, length, arith}
use Rattle.std.specs.List.{All, list_any}
use Rattle.std.specs.Option.{is_none}
use Rattle.std.specs.Ordering.{int_eq}
use Rattle.std.proofs.lemmas.List.{length-append, length-take-le, take-append-le, take_all}
use Rattle.std.proofs.lemmas.List.Elements.{All-weaker}
use Rattle.ioa_values.specs.Outcome.{and_then}
use Rattle.ioa_actions.specs.ActionParts.{node_of}
use Rattle.ioa_actions.specs.declared.action.Action.{Action}
use Rattle.ioa_actions.specs.declared.fault.StepFault.{StepFault}
use Rattle.ioa_actions.specs.declared.fault.StepFault.TheVariants.{NoChannel, NotMine}
use Rattle.ioa_transitions.specs.Entries.{PlainEntry}
use Rattle.ioa_compose.specs.Composition.{find_confs, joint_pick, picks_of, put_confs}
use Rattle.ioa_compose.specs.Participants.{participants_of}
use Rattle.ioa_compose.specs.declared.configuration.Conf.{Conf}
use Rattle.ioa_compose.proofs.Picks.{picks_of-entry}
use Rattle.ioa_commits.specs.Books.{PlainBook, plain_book, states_held}
use Rattle.ioa_commits.specs.Proposals.{PlainProposal, plain_proposal}
use Rattle.ioa_book.specs.Looks.{PlainSnapshot, snapshot_after}
use Rattle.ioa_book.specs.Proposals.{proposal_answer, reads_held}
use Rattle.ioa_book.proofs.FreshLooks.{fresh_proposal}
use Rattle.ioa_core.specs.Hands.{IsPastLook, IsPastProposal, IsTrueHand, book_at}
use Rattle.ioa_core.specs.declared.hand.Hand.{Hand}
use Rattle.ioa_core.specs.declared.hand.Hand.TheVariants as hand

module _ (b : PlainBook) (e : PlainEntry) where
  -- the book with an entry more
  abbrev pub longer : PlainBook
  longer = plain_book b.start (b.log ++ e ∷ []) b.limit

  look_kept : (s : PlainSnapshot) → IsPastLook b s → IsPastLook longer s
  look_kept s h = record {
    past = omega (arith, h.past, length-append b.log (e ∷ []));
    look = rw (take-append-le s.length b.log (e ∷ []) h.past) h.look;
  }

  proposal_kept : (p : PlainProposal) → IsPastProposal b p → IsPastProposal longer p
  proposal_kept p h = record {
    past = omega (arith, h.past, length-append b.log (e ∷ []));
    reads = rw (take-append-le p.length b.log (e ∷ []) h.past) h.reads;
    there = rw (take-append-le p.length b.log (e ∷ []) h.past) h.there;
  }

  module _ {O : Type 0} where
    hand_kept : (h : Hand O) → IsTrueHand b h → IsTrueHand longer h
    hand_kept hand.Empty t = tt
    hand_kept (hand.Looked s) t = look_kept s.value t
    hand_kept (hand.Proposed p) t = proposal_kept p t

    -- what hands hold stays of the past when an entry is recorded
    pub hands_kept : (hands : List (Hand O)) → All (IsTrueHand b) hands → All (IsTrueHand longer) hands
    hands_kept hands t = All-weaker (IsTrueHand b) (IsTrueHand longer) hand_kept hands t

-- a look at the book as it is
pub fresh_look : (b : PlainBook) (s : PlainSnapshot) → s ≡ snapshot_after s.node b.start b.log → IsPastLook b s
fresh_look b s is =
    let long : s.length ≡ length b.log = ap (λ (x : PlainSnapshot). x.length) is in
    let whole : take s.length b.log ≡ b.log = take_all s.length b.log (omega (arith, long)) in
    record { past = omega (arith, long); look = rw whole is }

-- what the composition picks for an action on a look, if the action is the node's
abbrev pub picked_on : PlainBook → PlainSnapshot → Action → Result (PlainEntry × List Conf) StepFault
picked_on b s a = if int_eq (node_of a) s.node then joint_pick a (states_held (book_at b s.length)) else Err NotMine

-- a proposal on a look of the past is of the past, and of what is picked there
pub record IsProposedOn (b : PlainBook) (s : PlainSnapshot) (a : Action) (p : PlainProposal) : Type 0 where
  pub next : List Conf
  pub picked : picked_on b s a ≡ Ok (p.entry, next)
  pub length_is : p.length ≡ s.length
  pub of_past : IsPastProposal b p

-- all are there if there are changes
all_there : {A : Type 0} (t : Bool) (x : Result A StepFault) (y : A) → (if t then Err NoChannel else x) ≡ Ok y → t ≡ false
all_there true x y h = absurd (cc)
all_there false x y h = refl

module _ (b : PlainBook) (s : PlainSnapshot) (a : Action) (old : IsPastLook b s) where
  abbrev picks : Result (PlainEntry × List Conf) StepFault
  picks = picks_of a (find_confs (participants_of a) (states_held (book_at b s.length)))

  abbrev made_of : PlainEntry × List Conf → Result PlainProposal StepFault
  made_of t = Ok (plain_proposal t.0 s.length (reads_held (book_at b s.length) (participants_of a)))

  old_proposal : int_eq (node_of a) s.node ≡ true → proposal_answer a s ≡ and_then picks made_of
  old_proposal own =
      ap (λ (x : PlainSnapshot). proposal_answer a x) old.look
      ∙ fresh_proposal (book_at b s.length) s.node a own
      ∙ ap (λ m. and_then picks (λ t. Ok (plain_proposal t.0 m (reads_held (book_at b s.length) (participants_of a))))) (length-take-le s.length b.log old.past)

  -- a proposal that is made
  pub proposed_on : (p : PlainProposal) → proposal_answer a s ≡ Ok p → IsProposedOn b s a p
  proposed_on p made = by_node (int_eq (node_of a) s.node) refl
    where
      by_picks : int_eq (node_of a) s.node ≡ true → (r : Result (PlainEntry × List Conf) StepFault) → picks ≡ r → and_then r made_of ≡ Ok p →
          IsProposedOn b s a p
      by_picks own (Err f) e h = absurd (cc)
      by_picks own (Ok t) e h =
          let same : plain_proposal t.0 s.length (reads_held (book_at b s.length) (participants_of a)) ≡ p = cc in
          let parts = picks_of-entry a (find_confs (participants_of a) (states_held (book_at b s.length))) t.0 t.1 e in
          let there : list_any is_none (find_confs (participants_of a) (states_held (book_at b s.length))) ≡ false =
          all_there (list_any is_none (find_confs (participants_of a) (states_held (book_at b s.length)))) _ t.1 parts.1 in
          subst (λ (q : PlainProposal). IsProposedOn b s a q) same
          (record {
            next = put_confs t.1 (states_held (book_at b s.length));
            picked = rw (own, e) refl;
            length_is = refl;
            of_past = record { past = old.past; reads = rw parts.0 refl; there = rw parts.0 there };
          })

      by_node : (t : Bool) → int_eq (node_of a) s.node ≡ t → IsProposedOn b s a p
      by_node false other = let none : proposal_answer a s ≡ Err NotMine = rw other refl in absurd (cc)
      by_node true own = by_picks own picks refl (sym (old_proposal own) ∙ made)

  -- an action that is refused
  pub refused_on : (f : StepFault) → proposal_answer a s ≡ Err f → picked_on b s a ≡ Err f
  refused_on f refused = by_node (int_eq (node_of a) s.node) refl
    where
      by_picks : int_eq (node_of a) s.node ≡ true → (r : Result (PlainEntry × List Conf) StepFault) → picks ≡ r → and_then r made_of ≡ Err f →
          picked_on b s a ≡ Err f
      by_picks own (Ok t) e h = absurd (cc)
      by_picks own (Err g) e h = rw (own, e) (let same : g ≡ f = cc in ap Err same)

      by_fault : (g : StepFault) → ◌≡◌ {A = Result PlainProposal StepFault} (Err g) (Err f) → g ≡ f
      by_fault g h = cc

      by_node : (t : Bool) → int_eq (node_of a) s.node ≡ t → picked_on b s a ≡ Err f
      by_node false other =
          let none : proposal_answer a s ≡ Err NotMine = rw other refl in
          let same : NotMine ≡ f = by_fault NotMine (sym none ∙ refused) in
          rw other (ap Err same)
      by_node true own = by_picks own picks refl (sym (old_proposal own) ∙ refused)
