-- When a commit is refused, in terms of what has components in common; and that counts decide nothing.
use Rattle.std.proofs.Common.{◌≡◌, ◌+◌, ◌<◌, ◌≤◌, ℕ, ℤ, Bool, true, false, ◌||◌, List, [], ◌∷◌, Option, Some, None, Result, Ok, Err}
use Rattle.std.proofs.Common.{if◌then◌else◌, refl, sym, subst, ◌∙◌, take, drop, set, length, arith}
use Rattle.std.specs.Prelude.{cond, find, is_some, nat_lt, slice_get}
use Rattle.std.specs.List.{AllByRecursion, list_any}
use Rattle.std.specs.Ordering.{int_eq}
use Rattle.std.proofs.lemmas.Bool.{ltb-false, ltb-true, or_parts, or_right}
use Rattle.std.proofs.lemmas.List.Elements.{All-from_recursion, recursion_from_All}
use Rattle.ioa_lemmas.proofs.Filters.{length-filter-some, length-filter-split}
use Rattle.ioa_actions.specs.ActionParts.{node_of}
use Rattle.ioa_actions.specs.ComponentOrder.{same_component}
use Rattle.ioa_actions.specs.declared.action.Action.{Action}
use Rattle.ioa_actions.specs.declared.component.Component.{Component}
use Rattle.ioa_actions.specs.declared.component.Component.TheVariants.{Node}
use Rattle.ioa_actions.specs.declared.fault.StepFault.{StepFault}
use Rattle.ioa_actions.specs.declared.fault.StepFault.TheVariants.{NotMine}
use Rattle.ioa_actions.proofs.SameComponents.{Decides-same_component, same_component-itself}
use Rattle.ioa_transitions.specs.Entries.{PlainEntry}
use Rattle.ioa_compose.specs.Composition.{find_conf, joint_pick}
use Rattle.ioa_compose.specs.Participants.{participants_of, takes_part}
use Rattle.ioa_compose.specs.declared.configuration.Conf.{Conf}
use Rattle.ioa_compose.proofs.Components.{takes_part-is}
use Rattle.ioa_commits.specs.Books.{states_after}
use Rattle.ioa_commits.specs.Versions.{version}
use Rattle.ioa_core.specs.CommitLaws.{AreAlike, IsApartFrom, IsCommitReply, IsConflict}
use Rattle.ioa_core.specs.Cores.{PlainCore, PlainHand, answer, answer_by, answer_in, commit_by, empty, hand_of, look_answer}
use Rattle.ioa_core.specs.Cores.{looked, plain_core, proposed, proposed_by, recorded, replies, touched, with_hand}
use Rattle.ioa_core.specs.declared.event.Event.{Event}
use Rattle.ioa_core.specs.declared.event.Event.TheVariants.{Look, Propose, Commit, Abandon}
use Rattle.ioa_core.specs.declared.reply.Reply.{Reply}
use Rattle.ioa_core.specs.declared.reply.Reply.TheVariants as reply
use Rattle.ioa_core.proofs.Told.{answer_at}

-- entries with which an action has no component in common
apart_each : (a : Action) (entries : List PlainEntry) →
    ((k : Component) → takes_part k a ≡ true → list_any (λ e. takes_part k e.action) entries ≡ false) →
    AllByRecursion (λ e. (k : Component) → takes_part k a ≡ true → takes_part k e.action ≡ false) entries
apart_each a [] h = tt
apart_each a (e ∷ more) h = (
  (λ k part. (or_parts (takes_part k e.action) (list_any (λ e. takes_part k e.action) more) (h k part)).0),
  apart_each a more (λ k part. (or_parts (takes_part k e.action) (list_any (λ e. takes_part k e.action) more) (h k part)).1),
)

apart_all : (a : Action) (entries : List PlainEntry) →
    AllByRecursion (λ e. (k : Component) → takes_part k a ≡ true → takes_part k e.action ≡ false) entries →
    (k : Component) → takes_part k a ≡ true → list_any (λ e. takes_part k e.action) entries ≡ false
apart_all a [] h k part = refl
apart_all a (e ∷ more) h k part = rw (h.0 k part) (apart_all a more h.1 k part)

module _ (log : List PlainEntry) (n : ℕ) where
  -- if no participant is touched, each is untouched
  each_untouched : (ks : List Component) → find (touched log n) ks ≡ None → (k : Component) → list_any (same_component k) ks ≡ true → touched log n k ≡ false
  each_untouched [] h k part = absurd (cc)
  each_untouched (j ∷ ks) h k part = by_touched (touched log n j) refl h (λ g q. each_untouched ks g k q)
    where
      by_name : touched log n j ≡ false → (s : Bool) → same_component k j ≡ s → (s || list_any (same_component k) ks) ≡ true →
          (list_any (same_component k) ks ≡ true → touched log n k ≡ false) → touched log n k ≡ false
      by_name other true same q further = let one : k ≡ j = (Decides-same_component k j).0 same in rw one other
      by_name other false same q further = further q

      by_touched : (t : Bool) → touched log n j ≡ t → cond t (Some j) (find (touched log n) ks) ≡ None →
          (find (touched log n) ks ≡ None → list_any (same_component k) ks ≡ true → touched log n k ≡ false) → touched log n k ≡ false
      by_touched true e g further = absurd (cc)
      by_touched false e g further = by_name e (same_component k j) refl part (further g)

  -- the first that is touched is touched, and is one of them
  touched_found : (ks : List Component) (k : Component) → find (touched log n) ks ≡ Some k → (touched log n k ≡ true) × (list_any (same_component k) ks ≡ true)
  touched_found [] k h = absurd (cc)
  touched_found (j ∷ ks) k h = by_touched (touched log n j) refl h (touched_found ks k)
    where
      by_touched : (t : Bool) → touched log n j ≡ t → cond t (Some j) (find (touched log n) ks) ≡ Some k →
          (find (touched log n) ks ≡ Some k → (touched log n k ≡ true) × (list_any (same_component k) ks ≡ true)) →
          (touched log n k ≡ true) × ((same_component k j || list_any (same_component k) ks) ≡ true)
      by_touched true e g further = let one : j ≡ k = cc in (rw (← one) e, rw (← one, same_component-itself j) refl)
      by_touched false e g further = let rest = further g in (rest.0, or_right (same_component k j) (list_any (same_component k) ks) rest.1)

  module _ (a : Action) where
    apart : find (touched log n) (participants_of a) ≡ None → IsApartFrom (drop n log) a
    apart none =
        All-from_recursion (λ e. (k : Component) → takes_part k a ≡ true → takes_part k e.action ≡ false) (drop n log)
        (apart_each a (drop n log) (λ k part. each_untouched (participants_of a) none k (sym (takes_part-is k a) ∙ part)))

    not_apart : (k : Component) → find (touched log n) (participants_of a) ≡ Some k → IsApartFrom (drop n log) a → ⊥
    not_apart k found h =
        let one = touched_found (participants_of a) k found in
        let none : touched log n k ≡ false =
        apart_all a (drop n log) (recursion_from_All (λ e. (k : Component) → takes_part k a ≡ true → takes_part k e.action ≡ false) (drop n log) h)
        k (takes_part-is k a ∙ one.1) in
        absurd (cc)

    -- a commit that meets a participant that was touched
    conflict : (k : Component) → find (touched log n) (participants_of a) ≡ Some k → IsConflict log n a (reply.Stale k (version k (take n log)) (version k log))
    conflict k found =
        let one = touched_found (participants_of a) k found in
        let split : version k log ≡ version k (take n log) + version k (drop n log) = length-filter-split (λ e. takes_part k e.action) n log in
        let some : 0 < version k (drop n log) = length-filter-some (λ e. takes_part k e.action) (drop n log) one.0 in
        record {
          component = k;
          read = version k (take n log);
          held = version k log;
          told = refl;
          own = takes_part-is k a ∙ one.1;
          since = split;
          moved = omega (arith, split, some);
        }

-- the reply of an answer
abbrev first_of : Reply × PlainCore → Reply
first_of t = t.0

module _ (c : PlainCore) (e : PlainEntry) (n : ℕ) where
  -- a commit that finds no conflict and room
  told_made : find (touched c.log n) (participants_of e.action) ≡ None → nat_lt (length c.log) c.limit ≡ true →
      IsCommitReply c e n (reply.Committed (length c.log))
  told_made none t =
      let free : IsApartFrom (drop n c.log) e.action = apart c.log n e.action none in
      let room : length c.log < c.limit = ltb-true (length c.log) c.limit t in
      record {
        committed = ((λ h. (free, room)), (λ h. refl));
        full = ((λ h. absurd (cc)), (λ h. absurd (let much : c.limit ≤ length c.log = h.1 in omega (arith, room, much))));
        stale = ((λ h. absurd (h free)), (λ h. let told = h.told in absurd (cc)));
      }

  -- one that finds no conflict and no room
  told_full : find (touched c.log n) (participants_of e.action) ≡ None → nat_lt (length c.log) c.limit ≡ false → IsCommitReply c e n reply.Full
  told_full none t =
      let free : IsApartFrom (drop n c.log) e.action = apart c.log n e.action none in
      let much : c.limit ≤ length c.log = ltb-false (length c.log) c.limit t in
      record {
        committed = ((λ h. absurd (cc)), (λ h. absurd (let room : length c.log < c.limit = h.1 in omega (arith, room, much))));
        full = ((λ h. (free, much)), (λ h. refl));
        stale = ((λ h. absurd (h free)), (λ h. let told = h.told in absurd (cc)));
      }

  -- and one that finds a conflict
  told_stale : (k : Component) → find (touched c.log n) (participants_of e.action) ≡ Some k →
      IsCommitReply c e n (reply.Stale k (version k (take n c.log)) (version k c.log))
  told_stale k found =
      record {
        committed = ((λ h. absurd (cc)), (λ h. absurd (not_apart c.log n e.action k found h.0)));
        full = ((λ h. absurd (cc)), (λ h. absurd (not_apart c.log n e.action k found h.0)));
        stale = ((λ h. conflict c.log n e.action k found), (λ h. not_apart c.log n e.action k found));
      }

  pub commit_told : (w : ℕ) → slice_get c.hands w ≡ Some (proposed e n) → IsCommitReply c e n (answer c (Commit w)).0
  commit_told w held =
      subst (λ (t : Reply × PlainCore). IsCommitReply c e n t.0) (sym (answer_at c (Commit w) (proposed e n) held))
      (by_first (find (touched c.log n) (participants_of e.action)) refl)
    where
      by_room : find (touched c.log n) (participants_of e.action) ≡ None → (t : Bool) → nat_lt (length c.log) c.limit ≡ t →
          IsCommitReply c e n (first_of (if t then (reply.Committed (length c.log), recorded (with_hand c w empty) w e) else (reply.Full, with_hand c w empty)))
      by_room none true t = told_made none t
      by_room none false t = told_full none t

      by_first : (o : Option Component) → find (touched c.log n) (participants_of e.action) ≡ o →
          IsCommitReply c e n (commit_by (with_hand c w empty) w e n o).0
      by_first (Some k) found = told_stale k found
      by_first None none = by_room none (nat_lt (length c.log) c.limit) refl

-- what two cores come to that differ in their counts alone
abbrev AreToldAlike : Reply × PlainCore → Reply × PlainCore → Type 0
AreToldAlike x y = (x.0 ≡ y.0) × AreAlike x.1 y.1

module _ (c : PlainCore) (counts : List ℕ) where
  -- the core with other counts
  abbrev recounted : PlainCore
  recounted = plain_core c.start c.log c.limit c.hands counts

  alike : (hands : List PlainHand) (m l : List ℕ) → AreAlike (plain_core c.start c.log c.limit hands m) (plain_core c.start c.log c.limit hands l)
  alike hands m l = record { start = refl; log = refl; limit = refl; hands = refl }

  look_alike : (w : ℕ) (k : ℤ) → AreToldAlike (look_answer c w k) (look_answer recounted w k)
  look_alike w k = by_there (is_some (find_conf (Node k) c.start))
    where
      by_there : (t : Bool) →
          AreToldAlike (if t then (reply.Looked, with_hand c w (looked k (length c.log))) else (reply.NoNode, c))
          (if t then (reply.Looked, with_hand recounted w (looked k (length c.log))) else (reply.NoNode, recounted))
      by_there true = (refl, alike (set c.hands w (looked k (length c.log))) c.counts counts)
      by_there false = (refl, alike c.hands c.counts counts)

  propose_alike : (w n : ℕ) (r : Result (PlainEntry × List Conf) StepFault) → AreToldAlike (proposed_by c w n r) (proposed_by recounted w n r)
  propose_alike w n (Ok t) = (refl, alike (set c.hands w (proposed t.0 n)) c.counts counts)
  propose_alike w n (Err f) = (refl, alike c.hands c.counts counts)

  commit_alike : (w : ℕ) (e : PlainEntry) (n : ℕ) (o : Option Component) →
      AreToldAlike (commit_by (with_hand c w empty) w e n o) (commit_by (with_hand recounted w empty) w e n o)
  commit_alike w e n (Some k) = (refl, alike (set c.hands w empty) c.counts counts)
  commit_alike w e n None = by_room (nat_lt (length c.log) c.limit)
    where
      by_room : (t : Bool) →
          AreToldAlike (if t then (reply.Committed (length c.log), recorded (with_hand c w empty) w e) else (reply.Full, with_hand c w empty))
          (if t then (reply.Committed (length c.log), recorded (with_hand recounted w empty) w e) else (reply.Full, with_hand recounted w empty))
      by_room true = (refl, record { start = refl; log = refl; limit = refl; hands = refl })
      by_room false = (refl, alike (set c.hands w empty) c.counts counts)

  hand_alike : (e : Event) (h : PlainHand) → AreToldAlike (answer_in c e h) (answer_in recounted e h)
  hand_alike (Look w k) h = look_alike w k
  hand_alike (Propose w a) empty = (refl, alike c.hands c.counts counts)
  hand_alike (Propose w a) (looked k n) = propose_alike w n (if int_eq (node_of a) k then joint_pick a (states_after c.start (take n c.log)) else Err NotMine)
  hand_alike (Propose w a) (proposed e n) = (refl, alike c.hands c.counts counts)
  hand_alike (Commit w) empty = (refl, alike c.hands c.counts counts)
  hand_alike (Commit w) (looked k n) = (refl, alike c.hands c.counts counts)
  hand_alike (Commit w) (proposed e n) = commit_alike w e n (find (touched c.log n) (participants_of e.action))
  hand_alike (Abandon w) h = (refl, alike (set c.hands w empty) c.counts counts)

  answer_alike : (e : Event) → AreToldAlike (answer c e) (answer recounted e)
  unfolding answer
  answer_alike e = by_hand (slice_get c.hands (hand_of e))
    where
      by_hand : (o : Option PlainHand) → AreToldAlike (answer_by c e o) (answer_by recounted e o)
      by_hand None = (refl, alike c.hands c.counts counts)
      by_hand (Some h) = hand_alike e h

-- a core that differs from another in its counts alone
recounted_is : (c d : PlainCore) → AreAlike c d → recounted c d.counts ≡ d
recounted_is c d h = λ i. record { start = h.start i; log = h.log i; limit = h.limit i; hands = h.hands i; counts = d.counts }

-- gives the same replies
pub told_alike : (c d : PlainCore) (events : List Event) → AreAlike c d → replies c events ≡ replies d events
told_alike c d [] h = refl
told_alike c d (e ∷ more) h =
    let same : AreToldAlike (answer c e) (answer d e) =
    subst (λ (x : PlainCore). AreToldAlike (answer c e) (answer x e)) (recounted_is c d h) (answer_alike c d.counts e) in
    λ i. same.0 i ∷ told_alike (answer c e).1 (answer d e).1 more same.1 i
