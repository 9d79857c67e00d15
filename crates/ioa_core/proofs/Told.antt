-- What each event comes to, from what the code does.
use Rattle.std.proofs.Common.{◌≡◌, ◌+◌, ◌<◌, ◌≤◌, ℕ, zero, suc, ℤ, Bool, true, false, List, [], ◌∷◌, ◌++◌, Option, Some, None, Result, Ok, Err}
use Rattle.std.proofs.Common.{if◌then◌else◌, refl, sym, ap, subst, ◌∙◌, map, set, take, replicate, get_or, length, arith}
use Rattle.std.specs.Prelude.{find, is_some, nat_lt, slice_get}
use Rattle.std.specs.List.{sum}
use Rattle.std.specs.Option.{option_map, option_or}
use Rattle.std.proofs.lemmas.Bool.{lt-ltb}
use Rattle.std.proofs.lemmas.List.{length-append, length-map, length-set, map-set}
use Rattle.std.proofs.lemmas.List.Elements.{All-get_or, All-set}
use Rattle.std.proofs.lemmas.List.Sums.{sum_by-set}
use Rattle.std.proofs.lemmas.Option.{slice_get-get_or, slice_get-map, slice_get_past, slice_get_within}
use Rattle.ioa_actions.specs.declared.action.Action.{Action}
use Rattle.ioa_actions.specs.declared.component.Component.{Component}
use Rattle.ioa_actions.specs.declared.component.Component.TheVariants.{Node}
use Rattle.ioa_actions.specs.declared.fault.StepFault.{StepFault}
use Rattle.ioa_transitions.specs.Entries.{PlainEntry}
use Rattle.ioa_compose.specs.Composition.{find_conf, joint_answer}
use Rattle.ioa_compose.specs.Participants.{participants_of}
use Rattle.ioa_compose.proofs.Replays.{replay-push}
use Rattle.ioa_commits.specs.Books.{PlainBook, held_of, plain_book, states_held}
use Rattle.ioa_commits.specs.Commits.{IsCommitted, IsRefused, full, refusal_of}
use Rattle.ioa_commits.specs.Proposals.{PlainProposal}
use Rattle.ioa_commits.specs.Versions.{PlainVersionedConf, version, with_version}
use Rattle.ioa_commits.specs.declared.outcome.CommitRefusal.{CommitRefusal}
use Rattle.ioa_commits.specs.declared.outcome.CommitRefusal.TheVariants as refusal
use Rattle.ioa_commits.proofs.Commits.{none_first, room_for, room_left}
use Rattle.ioa_book.specs.Looks as looks
use Rattle.ioa_book.specs.Looks.{PlainSnapshot, snapshot_after}
use Rattle.ioa_book.specs.Proposals.{proposal_answer}
use Rattle.ioa_book.specs.declared.outcome.LookFault.{LookFault}
use Rattle.ioa_book.specs.declared.outcome.LookFault.TheVariants.{Unknown}
use Rattle.ioa_core.specs.CommitLaws.{stale_at}
use Rattle.ioa_core.specs.Cores.{PlainCore, PlainHand, answer, answer_by, answer_in, commit_in, commit_on, empty, hand_of, has_proposal}
use Rattle.ioa_core.specs.Cores.{looked, plain_core, proposed, propose_in, touched, with_hand}
use Rattle.ioa_core.specs.Hands.{IsPastLook, IsPastProposal, IsTied, IsTrueHand, drawn_by, drawn_on, hand_view, is_proposed}
use Rattle.ioa_core.specs.Replies.{reply_to_refusal}
use Rattle.ioa_core.specs.declared.event.Event.{Event}
use Rattle.ioa_core.specs.declared.event.Event.TheVariants.{Look, Propose, Commit, Abandon}
use Rattle.ioa_core.specs.declared.hand.Drawn.{Drawn}
use Rattle.ioa_core.specs.declared.hand.Drawn.TheVariants as drawn
use Rattle.ioa_core.specs.declared.hand.Hand.{Hand}
use Rattle.ioa_core.specs.declared.hand.Hand.TheVariants as hand
use Rattle.ioa_core.specs.declared.reply.Reply.{Reply}
use Rattle.ioa_core.specs.declared.reply.Reply.TheVariants as reply
use Rattle.ioa_core.proofs.Moments.{found_alike}
use Rattle.ioa_core.proofs.PastBooks.{refusal_then}
use Rattle.ioa_core.proofs.PastHands.{IsProposedOn, fresh_look, hands_kept, proposed_on, refused_on}

-- an event of a hand that is there
pub answer_at : (c : PlainCore) (e : Event) (h : PlainHand) → slice_get c.hands (hand_of e) ≡ Some h → answer c e ≡ answer_in c e h
unfolding answer
answer_at c e h found = ap (λ (o : Option PlainHand). answer_by c e o) found

-- and of one that is not
pub no_hand : (c : PlainCore) (e : Event) → length c.hands ≤ hand_of e → answer c e ≡ (reply.NoHand, c)
unfolding answer
no_hand c e past = ap (λ (o : Option PlainHand). answer_by c e o) (slice_get_past c.hands (hand_of e) past)

-- a look that is made, or none
look_made : (t : Bool) (x s : PlainSnapshot) → ◌≡◌ {A = Result PlainSnapshot LookFault} (if t then Ok x else Err Unknown) (Ok s) → (t ≡ true) × (x ≡ s)
look_made true x s h = (refl, cc)
look_made false x s h = absurd (cc)

look_missing : (t : Bool) (x : PlainSnapshot) → ◌≡◌ {A = Result PlainSnapshot LookFault} (if t then Ok x else Err Unknown) (Err Unknown) → t ≡ false
look_missing true x h = absurd (cc)
look_missing false x h = refl

mapped_is_some : {A B : Type 0} (f : A → B) (o : Option A) → is_some (option_map f o) ≡ is_some o
mapped_is_some f None = refl
mapped_is_some f (Some x) = refl

mapped_none : {A B : Type 0} (f : A → B) (o : Option A) → option_map f o ≡ None → o ≡ None
mapped_none f None h = refl
mapped_none f (Some x) h = absurd (cc)

-- hands that hold nothing are seen so
pub no_hands_seen : (O : Type 0) (n : ℕ) → map (hand_view {O = O}) (replicate n hand.Empty) ≡ replicate n empty
no_hands_seen O zero = refl
no_hands_seen O (suc n) = λ i. empty ∷ no_hands_seen O n i

module _ {O : Type 0} (b : PlainBook) (hands : List (Hand O)) (counts : List ℕ) where
  -- what a contract sees
  abbrev pub core : PlainCore
  core = plain_core b.start b.log b.limit (map hand_view hands) counts

  -- a hand that is seen is there
  pub seen : (w : ℕ) → w < length (map hand_view hands) → w < length hands
  seen w l = omega (arith, l, length-map hands hand_view)

  hand_there : (w : ℕ) → w < length hands → slice_get (map hand_view hands) w ≡ Some (hand_view (get_or hands w hand.Empty))
  hand_there w l =
      slice_get-map hand_view hands w ∙ ap (λ (o : Option (Hand O)). option_map hand_view o) (slice_get-get_or hands w hand.Empty l)

  -- a hand that lets go what it holds
  pub abandoned_told : (w : ℕ) → w < length hands →
      answer core (Abandon w) ≡ (reply.Abandoned, plain_core b.start b.log b.limit (map hand_view (set hands w hand.Empty)) counts)
  abandoned_told w l =
      answer_at core (Abandon w) (hand_view (get_or hands w hand.Empty)) (hand_there w l) ∙ rw (map-set hand_view hands w hand.Empty) refl

  -- a commit of a hand that holds no proposal
  pub nothing_held : (w : ℕ) → w < length hands → is_proposed (get_or hands w hand.Empty) ≡ false → answer core (Commit w) ≡ (reply.NothingProposed, core)
  nothing_held w l none =
      answer_at core (Commit w) (hand_view (get_or hands w hand.Empty)) (hand_there w l) ∙ by_hand (get_or hands w hand.Empty) none
    where
      by_hand : (h : Hand O) → is_proposed h ≡ false → commit_in core w (hand_view h) ≡ (reply.NothingProposed, core)
      by_hand hand.Empty e = refl
      by_hand (hand.Looked s) e = refl
      by_hand (hand.Proposed p) e = absurd (cc)

  -- a hand that holds a proposal
  pub held_told : (w : ℕ) (p : PlainProposal) → w < length hands → get_or hands w hand.Empty ≡ hand.Proposed p →
      answer core (Commit w) ≡ commit_on (plain_core b.start b.log b.limit (map hand_view (set hands w hand.Empty)) counts) w p.entry p.length
  held_told w p l held =
      answer_at core (Commit w) (hand_view (get_or hands w hand.Empty)) (hand_there w l)
      ∙ ap (λ (h : Hand O). commit_in core w (hand_view h)) held
      ∙ rw (map-set hand_view hands w hand.Empty) refl

  -- that a hand holds one is seen
  pub proposal_seen : (w : ℕ) → w < length hands → is_proposed (get_or hands w hand.Empty) ≡ true → has_proposal (slice_get (map hand_view hands) w) ≡ true
  proposal_seen w l held = rw (hand_there w l) (by_hand (get_or hands w hand.Empty) held)
    where
      by_hand : (h : Hand O) → is_proposed h ≡ true → has_proposal (Some (hand_view h)) ≡ true
      by_hand hand.Empty e = absurd (cc)
      by_hand (hand.Looked s) e = absurd (cc)
      by_hand (hand.Proposed p) e = refl

  pub seen_there : (w : ℕ) → has_proposal (slice_get (map hand_view hands) w) ≡ true → w < length hands
  seen_there w held = by_place (slice_get (map hand_view hands) w) refl held
    where
      by_place : (o : Option PlainHand) → slice_get (map hand_view hands) w ≡ o → has_proposal o ≡ true → w < length hands
      by_place None e h = absurd (cc)
      by_place (Some x) e h = seen w (slice_get_within (map hand_view hands) w x e)

  pub seen_proposed : (w : ℕ) → has_proposal (slice_get (map hand_view hands) w) ≡ true → is_proposed (get_or hands w hand.Empty) ≡ true
  seen_proposed w held = by_hand (get_or hands w hand.Empty) (rw (hand_there w (seen_there w held)) at held)
    where
      by_hand : (h : Hand O) → has_proposal (Some (hand_view h)) ≡ true → is_proposed h ≡ true
      by_hand hand.Empty e = absurd (cc)
      by_hand (hand.Looked s) e = absurd (cc)
      by_hand (hand.Proposed p) e = refl

  module _ (tied : IsTied b hands counts) where
    -- what a hand holds is of the past
    pub true_held : (w : ℕ) → w < length hands → IsTrueHand b (get_or hands w hand.Empty)
    true_held w l = All-get_or (IsTrueHand b) hands w hand.Empty l tied.true_hands

    -- another thing of the past in a hand
    pub tied_with : (w : ℕ) (h : Hand O) → IsTrueHand b h → IsTied b (set hands w h) counts
    tied_with w h t = record {
      leads = tied.leads;
      within = tied.within;
      limited = tied.limited;
      true_hands = All-set (IsTrueHand b) hands w h t tied.true_hands;
      as_many = tied.as_many ∙ sym (length-set hands w h);
      counted = tied.counted;
    }

    -- a node is there if it was at the start
    node_there : (k : ℤ) → is_some (held_of b (Node k)) ≡ is_some (find_conf (Node k) b.start)
    node_there k =
        mapped_is_some (with_version b.log) (find_conf (Node k) (states_held b)) ∙ found_alike (Node k) b.log b.start (states_held b) tied.leads

    pub looked_told : (w : ℕ) (k : ℤ) (s : PlainSnapshot) (h : Hand O) → w < length hands → looks.look_answer b k ≡ Ok s →
        hand_view h ≡ looked s.node s.length →
        (answer core (Look w k) ≡ (reply.Looked, plain_core b.start b.log b.limit (map hand_view (set hands w h)) counts)) × IsPastLook b s
    looked_told w k s h l found view =
        let parts = look_made (is_some (held_of b (Node k))) (snapshot_after k b.start b.log) s found in
        let there : is_some (find_conf (Node k) b.start) ≡ true = sym (node_there k) ∙ parts.0 in
        let shown : hand_view h ≡ looked k (length b.log) = view ∙ sym (ap (λ (x : PlainSnapshot). looked x.node x.length) parts.1) in
        let is : s ≡ snapshot_after s.node b.start b.log = sym parts.1 ∙ ap (λ (x : PlainSnapshot). snapshot_after x.node b.start b.log) parts.1 in
        let past = fresh_look b s is in
        (answer_at core (Look w k) (hand_view (get_or hands w hand.Empty)) (hand_there w l) ∙ rw (there, map-set hand_view hands w h, shown) refl, past)

    pub no_node_told : (w : ℕ) (k : ℤ) → w < length hands → looks.look_answer b k ≡ Err Unknown → answer core (Look w k) ≡ (reply.NoNode, core)
    no_node_told w k l found =
        let missing : is_some (find_conf (Node k) b.start) ≡ false =
        sym (node_there k) ∙ look_missing (is_some (held_of b (Node k))) (snapshot_after k b.start b.log) found in
        answer_at core (Look w k) (hand_view (get_or hands w hand.Empty)) (hand_there w l) ∙ rw missing refl

    module _ (w : ℕ) (a : Action) where
      -- what a proposal comes to, by what was drawn
      abbrev IsDrawnReply : PlainHand → Drawn O → Type 0
      IsDrawnReply h (drawn.Proposal p) = (propose_in core w a h ≡ (reply.Proposed, with_hand core w (proposed p.entry p.length))) × IsPastProposal b p
      IsDrawnReply h (drawn.Refused f) = propose_in core w a h ≡ (reply.Refused f, core)
      IsDrawnReply h drawn.Nothing = propose_in core w a h ≡ (reply.NothingLooked, core)

      on_look : (s : PlainSnapshot) → IsPastLook b s → IsDrawnReply (looked s.node s.length) (drawn_on (proposal_answer a s))
      on_look s old = by_answer (proposal_answer a s) refl
        where
          by_answer : (r : Result PlainProposal StepFault) → proposal_answer a s ≡ r → IsDrawnReply (looked s.node s.length) (drawn_on r)
          by_answer (Ok p) e = let on : IsProposedOn b s a p = proposed_on b s a old p e in (rw (on.picked, on.length_is) refl, on.of_past)
          by_answer (Err f) e = rw (refused_on b s a old f e) refl

      drawn_reply : (g : Hand O) → IsTrueHand b g → IsDrawnReply (hand_view g) (drawn_by a g)
      drawn_reply hand.Empty t = refl
      drawn_reply (hand.Looked s) t = on_look s.value t
      drawn_reply (hand.Proposed p) t = refl

      drawn_is : (d : Drawn O) → w < length hands → d ≡ drawn_by a (get_or hands w hand.Empty) → IsDrawnReply (hand_view (get_or hands w hand.Empty)) d
      drawn_is d l is =
          subst (λ (x : Drawn O). IsDrawnReply (hand_view (get_or hands w hand.Empty)) x) (sym is)
          (drawn_reply (get_or hands w hand.Empty) (All-get_or (IsTrueHand b) hands w hand.Empty l tied.true_hands))

      told_at : w < length hands → answer core (Propose w a) ≡ propose_in core w a (hand_view (get_or hands w hand.Empty))
      told_at l = answer_at core (Propose w a) (hand_view (get_or hands w hand.Empty)) (hand_there w l)

      pub proposed_told : (p : PlainProposal) (h : Hand O) → w < length hands → hand_view h ≡ proposed p.entry p.length →
          drawn.Proposal p ≡ drawn_by a (get_or hands w hand.Empty) →
          (answer core (Propose w a) ≡ (reply.Proposed, plain_core b.start b.log b.limit (map hand_view (set hands w h)) counts)) × IsPastProposal b p
      proposed_told p h l view is =
          let on = drawn_is (drawn.Proposal p) l is in
          (told_at l ∙ on.0 ∙ rw (map-set hand_view hands w h, view) refl, on.1)

      pub refused_told : (f : StepFault) → w < length hands → drawn.Refused f ≡ drawn_by a (get_or hands w hand.Empty) →
          answer core (Propose w a) ≡ (reply.Refused f, core)
      refused_told f l is = told_at l ∙ drawn_is (drawn.Refused f) l is

      pub nothing_told : w < length hands → drawn.Nothing ≡ drawn_by a (get_or hands w hand.Empty) → answer core (Propose w a) ≡ (reply.NothingLooked, core)
      nothing_told l is = told_at l ∙ drawn_is drawn.Nothing l is

    pub counted : (w : ℕ) → w < length hands → w < length counts
    counted w l = omega (arith, l, tied.as_many)

    -- a count of a hand is at most the length of the log
    pub count_small : (w : ℕ) → w < length hands → get_or counts w 0 ≤ 1000000
    count_small w l =
        let within : w < length counts = omega (arith, l, tied.as_many) in
        let part : sum (set counts w 0) + get_or counts w 0 ≡ sum counts + 0 = sum_by-set (λ x. x) counts w 0 0 within in
        omega (arith, part, tied.counted, tied.within, tied.limited)

    module _ (w : ℕ) (p : PlainProposal) (old : IsPastProposal b p) where
      abbrev first_touched : Option Component
      first_touched = find (touched b.log p.length) (participants_of p.entry.action)

      -- why the proposal is refused
      reason : refusal_of b p.reads ≡ option_or (option_map (stale_at b p.length) first_touched) (full b)
      reason = ap (λ (rs : List PlainVersionedConf). refusal_of b rs) old.reads ∙ refusal_then b p.length tied.leads (participants_of p.entry.action) old.there

      -- the commit is made
      pub committed_told : (index : ℕ) (e : PlainEntry) (new : PlainBook) → IsCommitted b p index e new →
          commit_on core w p.entry p.length
          ≡ (reply.Committed index, plain_core new.start new.log new.limit (map hand_view hands) (set counts w (get_or counts w 0 + 1)))
      committed_told index e new made =
          let parts = none_first (option_map (stale_at b p.length) first_touched) (full b) (sym reason ∙ made.accepted) in
          let apart : first_touched ≡ None = mapped_none (stale_at b p.length) first_touched parts.0 in
          let room : nat_lt (length b.log) b.limit ≡ true = lt-ltb (length b.log) b.limit (room_left b parts.1) in
          rw (apart, room, made.at, made.recorded) refl

      pub tied_committed : (index : ℕ) (e : PlainEntry) (new : PlainBook) → w < length hands → IsCommitted b p index e new →
          IsTied new hands (set counts w (get_or counts w 0 + 1))
      tied_committed index e new l made =
          let room : length b.log < b.limit = room_for b p.reads made.accepted in
          let within : w < length counts = omega (arith, l, tied.as_many) in
          let total : sum (set counts w (get_or counts w 0 + 1)) + get_or counts w 0 ≡ sum counts + (get_or counts w 0 + 1) =
          sum_by-set (λ x. x) counts w (get_or counts w 0 + 1) 0 within in
          let longer : length (b.log ++ p.entry ∷ []) ≡ length b.log + 1 = length-append b.log (p.entry ∷ []) in
          let longest : PlainBook = plain_book b.start (b.log ++ p.entry ∷ []) b.limit in
          let step : joint_answer p.entry (states_held b) ≡ Ok (states_held longest) =
          subst (λ (n : PlainBook). joint_answer p.entry (states_held b) ≡ Ok (states_held n)) made.recorded made.step in
          subst (λ (n : PlainBook). IsTied n hands (set counts w (get_or counts w 0 + 1))) (sym made.recorded)
          (record {
            leads = replay-push b.log p.entry b.start (states_held b) (states_held longest) tied.leads step;
            within = omega (arith, room, longer);
            limited = tied.limited;
            true_hands = hands_kept b p.entry hands tied.true_hands;
            as_many = length-set counts w (get_or counts w 0 + 1) ∙ tied.as_many;
            counted = omega (arith, total, longer, tied.counted);
          })

      -- a refusal is one that a proposal of the core's own can have
      record IsOwnRefusal (why : CommitRefusal) : Type 0 where
        own : is_some (reply_to_refusal why) ≡ true
        told : (r : Reply) → reply_to_refusal why ≡ Some r → commit_on core w p.entry p.length ≡ (r, core)

      is_own : (why : CommitRefusal) → refusal_of b p.reads ≡ Some why → IsOwnRefusal why
      is_own why refused = by_first first_touched refl (sym reason ∙ refused)
        where
          by_room : (t : Bool) → nat_lt (length b.log) b.limit ≡ t → first_touched ≡ None → (if t then None else Some refusal.Full) ≡ Some why →
              IsOwnRefusal why
          by_room true e none h = absurd (cc)
          by_room false e none h =
              let same : refusal.Full ≡ why = cc in
              subst (λ (y : CommitRefusal). IsOwnRefusal y) same
              (record { own = refl; told = λ r is. let this : reply.Full ≡ r = cc in rw (none, e) (ap (λ (x : Reply). (x, core)) this) })

          by_first : (o : Option Component) → first_touched ≡ o → option_or (option_map (stale_at b p.length) o) (full b) ≡ Some why → IsOwnRefusal why
          by_first (Some k) e h =
              let same : stale_at b p.length k ≡ why = cc in
              subst (λ (y : CommitRefusal). IsOwnRefusal y) same
              (record {
                own = refl;
                told = λ r is.
                    let this : reply.Stale k (version k (take p.length b.log)) (version k b.log) ≡ r = cc in
                    rw e (ap (λ (x : Reply). (x, core)) this);
              })
          by_first None e h = by_room (nat_lt (length b.log) b.limit) refl e h

      pub refusal_own : (why : CommitRefusal) (back : PlainProposal) (new : PlainBook) → IsRefused b p why back new → is_some (reply_to_refusal why) ≡ true
      refusal_own why back new refused = (is_own why refused.reason).own

      pub refusal_told : (why : CommitRefusal) (back : PlainProposal) (new : PlainBook) (r : Reply) → IsRefused b p why back new →
          reply_to_refusal why ≡ Some r → commit_on core w p.entry p.length ≡ (r, core)
      refusal_told why back new r refused is = (is_own why refused.reason).told r is
