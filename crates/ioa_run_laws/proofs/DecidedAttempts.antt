-- An attempt under the commit lock comes to what the core machine replies to a commit.
use Rattle.std.proofs.Common.{◌≡◌, ◌+◌, ◌<◌, ◌≤◌, ℕ, ℤ, max, Bool, true, false, List, [], ◌∷◌, ◌++◌, Option, Some, None, Ok, Err}
use Rattle.std.proofs.Common.{if◌then◌else◌, refl, sym, ap, subst, ◌∙◌, take, drop, length, arith}
use Rattle.std.specs.Prelude.{◌↔◌, find, nat_lt}
use Rattle.std.specs.Option.{option_map, option_or}
use Rattle.std.proofs.lemmas.Bool.{ltb-false, ltb-true}
use Rattle.std.proofs.lemmas.List.{append-nil, append_assoc, drop_at, length-append, take_at}
use Rattle.ioa_actions.specs.declared.component.Component.{Component}
use Rattle.ioa_transitions.specs.Entries.{PlainEntry}
use Rattle.ioa_compose.specs.Executions.{projection_of}
use Rattle.ioa_compose.specs.Participants.{participants_of}
use Rattle.ioa_commits.specs.Books.{PlainBook}
use Rattle.ioa_commits.specs.Commits.{full, refusal_of}
use Rattle.ioa_commits.specs.Proposals.{PlainProposal}
use Rattle.ioa_commits.specs.Versions.{PlainVersionedConf, version}
use Rattle.ioa_commits.specs.declared.outcome.CommitRefusal.{CommitRefusal}
use Rattle.ioa_commits.specs.declared.outcome.CommitRefusal.TheVariants as refusal
use Rattle.ioa_commits.proofs.Commits.{room_left}
use Rattle.ioa_book.specs.BookLaws.{IsLawful}
use Rattle.ioa_book.specs.Looks.{PlainSnapshot, snapshot_after}
use Rattle.ioa_core.specs.CommitLaws.{IsApartFrom, IsCommitReply, IsConflict, stale_at}
use Rattle.ioa_core.specs.Cores.{PlainCore, commit_by, empty, plain_core, proposed, recorded, touched, with_hand}
use Rattle.ioa_core.specs.Hands.{IsPastLook, IsPastProposal}
use Rattle.ioa_core.specs.declared.event.Event.TheVariants.{Commit}
use Rattle.ioa_core.specs.declared.reply.Reply.{Reply}
use Rattle.ioa_core.specs.declared.reply.Reply.TheVariants as reply
use Rattle.ioa_core.proofs.CommitLaws.{commit_told}
use Rattle.ioa_core.proofs.PastBooks.{refusal_then}
use Rattle.ioa_core.proofs.PastHands.{IsProposedOn, proposed_on}
use Rattle.ioa_core.proofs.Told.{answer_at}
use Rattle.ioa_passes.specs.Looks.{view_answer}
use Rattle.ioa_passes.specs.PassLaws.{IsFresh}
use Rattle.ioa_passes.specs.Passes.{PlainPass, aged_by, older_length, risen_by_look, risen_by_refusal}
use Rattle.ioa_passes.specs.declared.outcome.Aged.TheVariants as aged
use Rattle.ioa_passes.specs.declared.outcome.Older.{Older}
use Rattle.ioa_passes.proofs.PassLaws.{fresh}
use Rattle.ioa_held.specs.Attempts.{IsRefusedBy, IsTaken}
use Rattle.ioa_held.specs.declared.outcome.Miss.{Miss}
use Rattle.ioa_held.specs.declared.outcome.Miss.TheVariants as miss
use Rattle.ioa_solo.proofs.UpTo.{shown}
use Rattle.ioa_run_laws.specs.Attempts.{GoesOnBy, IsAttempt, IsConflictWith, IsDecidedBy, IsOlder, IsProposedAt, Told, recorded_by}

-- the reply of an answer
abbrev first_of : Reply × PlainCore → Reply
first_of t = t.0

-- two outcomes that differ
no_receipt : (t : ℕ × PlainEntry) (m : Miss × PlainProposal) → ◌≡◌ {A = Told} (Ok t) (Err m) → ⊥
no_receipt t m h = absurd (cc)

of_miss : (m l : Miss × PlainProposal) → ◌≡◌ {A = Told} (Err m) (Err l) → m.0 ≡ l.0
of_miss m l h = let same : m ≡ l = cc in ap (λ (k : Miss × PlainProposal). k.0) same

not_committed : (k : Component) (v w n : ℕ) → reply.Stale k v w ≡ reply.Committed n → ⊥
not_committed k v w n h = absurd (cc)

not_full_reply : (k : Component) (v w : ℕ) → reply.Stale k v w ≡ reply.Full → ⊥
not_full_reply k v w h = absurd (cc)

of_stale : (k j : Component) (v u w z : ℕ) → reply.Stale k v w ≡ reply.Stale j u z → refusal.Stale k v w ≡ refusal.Stale j u z
of_stale k j v u w z h = cc

not_full : (k : Component) (v w : ℕ) → miss.Refused (refusal.Stale k v w) ≡ miss.Refused refusal.Full → ⊥
not_full k v w h = let same : refusal.Stale k v w ≡ refusal.Full = cc in absurd (cc)

not_older : (why : CommitRefusal) (o : Older) → miss.Refused why ≡ miss.Older o → ⊥
not_older why o h = absurd (cc)

-- a length that is less than was seen
module _ (seen held : ℕ) where
  behind_by : (o : Older) → older_length seen held ≡ Some o → held < seen
  behind_by o h = by_test (nat_lt held seen) refl h
    where
      by_test : (t : Bool) → nat_lt held seen ≡ t → (if t then Some (aged_by aged.Length seen held) else None) ≡ Some o → held < seen
      by_test true e g = ltb-true held seen e
      by_test false e g = absurd (cc)

module _ (since : List PlainEntry) (old now : PlainBook) (x : PlainProposal) (goes : GoesOnBy since old now) (lawful : IsLawful now) (at : IsProposedAt old x) where
  -- the look is of the book's past
  look_is : at.look ≡ snapshot_after at.node old.start old.log
  look_is = shown old at.node at.pass at.look at.shown

  long : at.look.length ≡ length old.log
  long = ap (λ (s : PlainSnapshot). s.length) look_is

  front : take at.look.length now.log ≡ old.log
  front = ap (λ (n : ℕ). take n now.log) long ∙ ap (λ (es : List PlainEntry). take (length old.log) es) goes.log ∙ take_at old.log since (length old.log) refl

  past_look : IsPastLook now at.look
  past_look =
      let total : length now.log ≡ length old.log + length since = ap length goes.log ∙ length-append old.log since in
      let own : at.look ≡ snapshot_after at.look.node old.start old.log =
      look_is ∙ ap (λ (s : PlainSnapshot). snapshot_after s.node old.start old.log) (sym look_is) in
      let moved : snapshot_after at.look.node now.start (take at.look.length now.log) ≡ snapshot_after at.look.node old.start old.log =
      λ i. snapshot_after at.look.node (goes.start i) (front i) in
      record { past = omega (arith, long, total); look = own ∙ sym moved }

  -- so the proposal is
  on : IsProposedOn now at.look at.action x
  on = proposed_on now at.look at.action past_look x at.proposed

  past : IsPastProposal now x
  past = on.of_past

  behind_it : drop x.length now.log ≡ since
  behind_it =
      ap (λ (n : ℕ). drop n now.log) (on.length_is ∙ long)
      ∙ ap (λ (es : List PlainEntry). drop (length old.log) es) goes.log
      ∙ drop_at old.log since (length old.log) refl

  abbrev first_touched : Option Component
  first_touched = find (touched now.log x.length) (participants_of x.entry.action)

  -- why it is refused
  reason : refusal_of now x.reads ≡ option_or (option_map (stale_at now x.length) first_touched) (full now)
  reason =
      ap (λ (rs : List PlainVersionedConf). refusal_of now rs) past.reads
      ∙ refusal_then now x.length lawful.leads (participants_of x.entry.action) past.there

  -- a core with this book, whose one hand holds the proposal
  abbrev core : PlainCore
  core = plain_core now.start now.log now.limit (proposed x.entry x.length ∷ []) []

  -- what it replies to a commit
  abbrev reply_by : Option Component → Reply
  reply_by o = first_of (commit_by (with_hand core 0 empty) 0 x.entry x.length o)

  replied : (o : Option Component) → first_touched ≡ o → IsCommitReply core x.entry x.length (reply_by o)
  replied o e =
      subst (λ (p : Option Component). IsCommitReply core x.entry x.length (reply_by p)) e
      (subst (λ (t : Reply × PlainCore). IsCommitReply core x.entry x.length t.0)
      (answer_at core (Commit 0) (proposed x.entry x.length) refl) (commit_told core x.entry x.length 0 refl))

  -- nothing that was recorded since has a component in common with it
  free : first_touched ≡ None → IsApartFrom since x.entry.action
  free none =
      subst (λ (es : List PlainEntry). IsApartFrom es x.entry.action) behind_it
      (by_room (nat_lt (length now.log) now.limit) (replied None none))
    where
      by_room : (t : Bool) →
          IsCommitReply core x.entry x.length
          (first_of (if t then (reply.Committed (length now.log), recorded (with_hand core 0 empty) 0 x.entry) else (reply.Full, with_hand core 0 empty))) →
          IsApartFrom (drop x.length now.log) x.entry.action
      by_room true h = (h.committed.0 refl).0
      by_room false h = (h.full.0 refl).0

  -- or something has
  not_free : (k : Component) → first_touched ≡ Some k → IsApartFrom since x.entry.action → ⊥
  not_free k e apart = by_room (nat_lt (length now.log) now.limit) refl
    where
      told : IsCommitReply core x.entry x.length (reply_by (Some k))
      told = replied (Some k) e

      before : IsApartFrom (drop x.length now.log) x.entry.action
      before = subst (λ (es : List PlainEntry). IsApartFrom es x.entry.action) (sym behind_it) apart

      by_room : (t : Bool) → nat_lt (length now.log) now.limit ≡ t → ⊥
      by_room true h = not_committed k (version k (take x.length now.log)) (version k now.log) (length now.log) (told.committed.1 (before, ltb-true (length now.log) now.limit h))
      by_room false h = not_full_reply k (version k (take x.length now.log)) (version k now.log) (told.full.1 (before, ltb-false (length now.log) now.limit h))

  conflict : (k : Component) (back : PlainProposal) → first_touched ≡ Some k → back ≡ x → IsConflictWith since x (Err (miss.Refused (stale_at now x.length k), back))
  conflict k back e is =
      let together : IsApartFrom (drop x.length now.log) x.entry.action → ⊥ =
      λ apart. not_free k e (subst (λ (es : List PlainEntry). IsApartFrom es x.entry.action) behind_it apart) in
      let c : IsConflict now.log x.length x.entry.action (reply.Stale k (version k (take x.length now.log)) (version k now.log)) = (replied (Some k) e).stale.0 together in
      let same : stale_at now x.length k ≡ refusal.Stale c.component c.read c.held = of_stale k c.component (version k (take x.length now.log)) c.read (version k now.log) c.held c.told in
      record {
        component = c.component;
        read = c.read;
        held = c.held;
        told = λ i. Err (miss.Refused (same i), is i);
        own = c.own;
        moved = c.since ∙ ap (λ (es : List PlainEntry). c.read + length (projection_of c.component es)) behind_it;
        touched = c.moved;
      }

  -- an attempt that is made
  by_made : (new : PlainBook) (p q : PlainPass) (i : ℕ) (e : PlainEntry) → IsTaken now x p i e new q → IsDecidedBy since now x (Ok (i, e))
  by_made new p q i e h = by_first first_touched refl (sym reason ∙ h.commit.accepted)
    where
      by_first : (o : Option Component) → first_touched ≡ o → option_or (option_map (stale_at now x.length) o) (full now) ≡ None → IsDecidedBy since now x (Ok (i, e))
      by_first (Some k) found accepted = absurd (cc)
      by_first None found accepted =
          let apart : IsApartFrom since x.entry.action = free found in
          let room : length now.log < now.limit = room_left now accepted in
          record {
            made = ((λ is. (apart, room)), (λ both. λ j. Ok (h.commit.at j, h.commit.entry j)));
            full = ((λ is. absurd (no_receipt (i, e) (miss.Refused refusal.Full, x) is)), (λ both. absurd (let much : now.limit ≤ length now.log = both.1 in omega (arith, room, much))));
            conflict = ((λ together. absurd (together apart)), (λ c. absurd (no_receipt (i, e) (miss.Refused (refusal.Stale c.component c.read c.held), x) c.told)));
          }

  -- one that the book refuses
  by_refused : (new : PlainBook) (back : PlainProposal) (p q : PlainPass) (why : CommitRefusal) → IsRefusedBy now x p why back new q → IsDecidedBy since now x (Err (miss.Refused why, back))
  by_refused new back p q why h = by_first first_touched refl (sym reason ∙ h.commit.reason)
    where
      stale : (k : Component) → first_touched ≡ Some k → IsDecidedBy since now x (Err (miss.Refused (stale_at now x.length k), back))
      stale k found = record {
        made = ((λ is. absurd (no_receipt (length now.log, x.entry) (miss.Refused (stale_at now x.length k), back) (sym is))), (λ both. absurd (not_free k found both.0)));
        full = ((λ is. absurd (not_full k (version k (take x.length now.log)) (version k now.log) (of_miss (miss.Refused (stale_at now x.length k), back) (miss.Refused refusal.Full, x) is))), (λ both. absurd (not_free k found both.0)));
        conflict = ((λ together. conflict k back found h.commit.handed_back), (λ c. not_free k found));
      }

      no_room : first_touched ≡ None → nat_lt (length now.log) now.limit ≡ false → IsDecidedBy since now x (Err (miss.Refused refusal.Full, back))
      no_room none e =
          let apart : IsApartFrom since x.entry.action = free none in
          let much : now.limit ≤ length now.log = ltb-false (length now.log) now.limit e in
          record {
            made = ((λ is. absurd (no_receipt (length now.log, x.entry) (miss.Refused refusal.Full, back) (sym is))), (λ both. absurd (let room : length now.log < now.limit = both.1 in omega (arith, room, much))));
            full = ((λ is. (apart, much)), (λ both. λ j. Err (miss.Refused refusal.Full, h.commit.handed_back j)));
            conflict = ((λ together. absurd (together apart)), (λ c. absurd (not_full c.component c.read c.held (sym (of_miss (miss.Refused refusal.Full, back) (miss.Refused (refusal.Stale c.component c.read c.held), x) c.told)))));
          }

      by_room : (t : Bool) → nat_lt (length now.log) now.limit ≡ t → first_touched ≡ None → (if t then None else Some refusal.Full) ≡ Some why → IsDecidedBy since now x (Err (miss.Refused why, back))
      by_room true e none g = absurd (cc)
      by_room false e none g =
          let same : refusal.Full ≡ why = cc in
          subst (λ (w : CommitRefusal). IsDecidedBy since now x (Err (miss.Refused w, back))) same (no_room none e)

      by_first : (o : Option Component) → first_touched ≡ o → option_or (option_map (stale_at now x.length) o) (full now) ≡ Some why → IsDecidedBy since now x (Err (miss.Refused why, back))
      by_first (Some k) found g =
          let same : stale_at now x.length k ≡ why = cc in
          subst (λ (w : CommitRefusal). IsDecidedBy since now x (Err (miss.Refused w, back))) same (stale k found)
      by_first None found g = by_room (nat_lt (length now.log) now.limit) refl found g

-- so each attempt is decided by what was recorded since
pub decided : (since : List PlainEntry) (old now new : PlainBook) (x : PlainProposal) (p q : PlainPass) (r : Told) → GoesOnBy since old now → IsLawful now → IsProposedAt old x → p.length ≤ length now.log → IsAttempt now x p r new q → IsDecidedBy since now x r
decided since old now new x p q (Ok (i, e)) goes lawful at within h = by_made since old now x goes lawful at new p q i e h
decided since old now new x p q (Err (miss.Older o, back)) goes lawful at within h =
    let less : length now.log < p.length = behind_by p.length (length now.log) o h.older in
    absurd (omega (arith, less, within))
decided since old now new x p q (Err (miss.Refused why, back)) goes lawful at within h = by_refused since old now x goes lawful at new back p q why h

-- an attempt of a pass that has seen a longer log
pub older_exactly : (b new : PlainBook) (x : PlainProposal) (p q : PlainPass) (r : Told) → IsAttempt b x p r new q → (IsOlder r ↔ (length b.log < p.length))
older_exactly b new x p q (Ok (i, e)) h = (
  (λ o. absurd (no_receipt (i, e) (miss.Older o.older, o.back) o.told)),
  (λ less. absurd (let within : p.length ≤ length b.log = h.current in omega (arith, less, within))),
)
older_exactly b new x p q (Err (miss.Older o, back)) h =
    ((λ _. behind_by p.length (length b.log) o h.older), (λ _. record { older = o; back = back; told = refl }))
older_exactly b new x p q (Err (miss.Refused why, back)) h = (
  (λ o. absurd (not_older why o.older (of_miss (miss.Refused why, back) (miss.Older o.older, o.back) o.told))),
  (λ less. absurd (let within : p.length ≤ length b.log = h.current in omega (arith, less, within))),
)

-- what an attempt leaves
as_it_was : (b new : PlainBook) → new ≡ b → GoesOnBy [] b new
as_it_was b new same = record {
  start = ap (λ (c : PlainBook). c.start) same;
  limit = ap (λ (c : PlainBook). c.limit) same;
  log = ap (λ (c : PlainBook). c.log) same ∙ sym (append-nil b.log);
}

pub goes_on : (b new : PlainBook) (x : PlainProposal) (p q : PlainPass) (r : Told) → IsAttempt b x p r new q → GoesOnBy (recorded_by r) b new
goes_on b new x p q (Ok (i, e)) h =
    let after : new ≡ record b { log = b.log ++ x.entry ∷ [] } = h.commit.recorded in
    record {
      start = ap (λ (c : PlainBook). c.start) after;
      limit = ap (λ (c : PlainBook). c.limit) after;
      log = ap (λ (c : PlainBook). c.log) after ∙ ap (λ (d : PlainEntry). b.log ++ d ∷ []) (sym h.commit.entry);
    }
goes_on b new x p q (Err (miss.Older o, back)) h = as_it_was b new h.unchanged
goes_on b new x p q (Err (miss.Refused why, back)) h = as_it_was b new h.commit.unchanged

pub further : (es fs : List PlainEntry) (b c d : PlainBook) → GoesOnBy es b c → GoesOnBy fs c d → GoesOnBy (es ++ fs) b d
further es fs b c d h g = record {
  start = g.start ∙ h.start;
  limit = g.limit ∙ h.limit;
  log = g.log ∙ ap (λ (log : List PlainEntry). log ++ fs) h.log ∙ append_assoc b.log es fs;
}

-- what a pass has seen of one book
pub seen_length : (b : PlainBook) (p : PlainPass) (n : ℤ) (look : PlainSnapshot) → view_answer b p n ≡ Ok look → (risen_by_look look p).length ≡ length b.log
seen_length b p n look h =
    let shows : IsFresh p look = fresh b p n look h in
    let long : look.length ≡ length b.log = ap (λ (s : PlainSnapshot). s.length) (shown b n p look h) in
    omega (arith, shows.log, long)

refused_length : (why : CommitRefusal) (p : PlainPass) → (risen_by_refusal why p).length ≡ p.length
refused_length (refusal.Unknown k) p = refl
refused_length (refusal.Stale k read held) p = refl
refused_length (refusal.Differs k) p = refl
refused_length refusal.Full p = refl

pub attempted_length : (b new : PlainBook) (x : PlainProposal) (p q : PlainPass) (r : Told) → IsAttempt b x p r new q → p.length ≤ length b.log → q.length ≤ length new.log
attempted_length b new x p q (Ok (i, e)) h within =
    let risen : q.length ≡ max p.length (i + 1) = ap (λ (y : PlainPass). y.length) h.pass in
    let longer : length new.log ≡ length b.log + 1 = ap (λ (c : PlainBook). length c.log) h.commit.recorded ∙ length-append b.log (x.entry ∷ []) in
    omega (arith, within, risen, longer, h.commit.at)
attempted_length b new x p q (Err (miss.Older o, back)) h within =
    let same : q.length ≡ p.length = ap (λ (y : PlainPass). y.length) h.pass in
    let long : length new.log ≡ length b.log = ap (λ (c : PlainBook). length c.log) h.unchanged in
    omega (arith, within, same, long)
attempted_length b new x p q (Err (miss.Refused why, back)) h within =
    let same : q.length ≡ p.length = ap (λ (y : PlainPass). y.length) h.pass ∙ refused_length why p in
    let long : length new.log ≡ length b.log = ap (λ (c : PlainBook). length c.log) h.commit.unchanged in
    omega (arith, within, same, long)
