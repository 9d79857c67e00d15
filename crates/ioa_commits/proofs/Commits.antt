-- What a commit that is accepted leaves.
use Rattle.std.proofs.Common.{◌≡◌, ◌≤◌, ◌<◌, ℕ, Bool, true, false, List, [], ◌∷◌, ◌++◌, Option, Some, None, Ok, if◌then◌else◌, refl, sym, ap, subst, ◌∙◌, map, length, arith}
use Rattle.std.specs.Prelude.{is_none, nat_lt, slice_get}
use Rattle.std.specs.List.{list_any, position_from}
use Rattle.std.specs.Option.{option_map, option_or, unwrap_or}
use Rattle.std.proofs.lemmas.Bool.{ltb-true}
use Rattle.std.proofs.lemmas.Bool.Decides.{Decides-eqb}
use Rattle.std.proofs.lemmas.List.{length-append}
use Rattle.ioa_actions.specs.ActionParts.{node_of}
use Rattle.ioa_actions.specs.ComponentOrder.{same_component}
use Rattle.ioa_actions.specs.declared.component.Component.{Component}
use Rattle.ioa_index.specs.Own.{own_slots}
use Rattle.ioa_transitions.specs.Entries.{PlainEntry}
use Rattle.ioa_compose.specs.Composition.{component_names, find_conf, find_confs, joint_answer, put_confs}
use Rattle.ioa_compose.specs.Executions.{replay}
use Rattle.ioa_compose.specs.Participants.{participants_of}
use Rattle.ioa_compose.specs.SameConfs.{same_conf}
use Rattle.ioa_compose.specs.declared.configuration.Conf.{Conf}
use Rattle.ioa_compose.proofs.Components.{component_names-put_confs}
use Rattle.ioa_compose.proofs.Replays.{replay-push}
use Rattle.ioa_compose.proofs.SameConfs.{same_conf_is}
use Rattle.ioa_commits.specs.Books.{IsKept, PlainBook, held_of, plain_book, states_after, states_held}
use Rattle.ioa_commits.specs.Commits.{AllHeld, IsCommitted, differs_by, first_refusal, full, refusal_by, refusal_of, unknown_by}
use Rattle.ioa_commits.specs.Proposals.{IsTrueProposal, plain_proposal}
use Rattle.ioa_commits.specs.Slots.{put_all_held, raise_at}
use Rattle.ioa_commits.specs.Versions.{PlainVersionedConf, read_component, read_confs, with_version}
use Rattle.ioa_commits.specs.declared.outcome.CommitRefusal.TheVariants.{Differs, Full}
use Rattle.ioa_commits.specs.declared.standing.Test.{Test}
use Rattle.ioa_commits.specs.declared.standing.Test.TheVariants.{Known, Current, Same}
use Rattle.ioa_commits.proofs.Lookups.{found_at, held_components, none_found}
use Rattle.ioa_commits.proofs.Puts.{put_all_versions}
use Rattle.ioa_commits.proofs.Raises.{raised}

-- the first of several reasons is none if there is none
pub none_first : {A : Type 0} (x y : Option A) → option_or x y ≡ None → (x ≡ None) × (y ≡ None)
none_first None y h = (refl, h)
none_first (Some a) y h = absurd (cc)

-- the configurations that a schedule leads to
pub held_is : (start confs : List Conf) (log : List PlainEntry) → replay log start ≡ Some confs → states_after start log ≡ confs
held_is start confs log h = ap (λ (o : Option (List Conf)). unwrap_or o []) h

-- the configurations among those that have their versions
pub confs_among : (log : List PlainEntry) (cs : List Conf) → read_confs (map (with_version log) cs) ≡ cs
confs_among log [] = refl
confs_among log (c ∷ cs) = λ i. c ∷ confs_among log cs i

no_absent : (cs : List Conf) → list_any is_none (map Some cs) ≡ false
no_absent [] = refl
no_absent (c ∷ cs) = no_absent cs

-- a book that isn't full has room
pub room_left : (b : PlainBook) → full b ≡ None → length b.log < b.limit
room_left b h = by_test (nat_lt (length b.log) b.limit) refl h
  where
    by_test : (t : Bool) → nat_lt (length b.log) b.limit ≡ t → (if t then None else Some Full) ≡ None → length b.log < b.limit
    by_test true e g = ltb-true (length b.log) b.limit e
    by_test false e g = absurd (cc)

-- what nothing is against is as it is held
one_held : (b : PlainBook) (r : PlainVersionedConf) (k : Component) (o : Option Conf) → unknown_by r (option_map (with_version b.log) o) ≡ None → differs_by r (option_map (with_version b.log) o) ≡ None → o ≡ Some r.conf
one_held b r k None h g = absurd (cc)
one_held b r k (Some c) h g = by_test (same_conf r.conf c) refl g
  where
    by_test : (t : Bool) → same_conf r.conf c ≡ t → (if t then None else Some (Differs (read_component r))) ≡ None → Some c ≡ Some r.conf
    by_test true e g = ap Some (sym ((same_conf_is r.conf c).0 e))
    by_test false e g = absurd (cc)

all_held : (b : PlainBook) (rs : List PlainVersionedConf) → first_refusal Known b rs ≡ None → first_refusal Same b rs ≡ None → find_confs (map read_component rs) (states_held b) ≡ map Some (read_confs rs)
all_held b [] h g = refl
all_held b (r ∷ rs) h g =
    let known = none_first (refusal_by Known r (held_of b (read_component r))) (first_refusal Known b rs) h in
    let same = none_first (refusal_by Same r (held_of b (read_component r))) (first_refusal Same b rs) g in
    λ i. one_held b r (read_component r) (find_conf (read_component r) (states_held b)) known.0 same.0 i ∷ all_held b rs known.1 same.1 i

-- the step of a proposal that nothing is against is the joint step of its entry
pub step_made : (b : PlainBook) (e again : PlainEntry) (rs : List PlainVersionedConf) (changed : List Conf) → IsTrueProposal e again rs changed → refusal_of b rs ≡ None → joint_answer e (states_held b) ≡ Ok (put_confs changed (states_held b))
step_made b e again rs changed true_proposal accepted =
    let first = none_first (first_refusal Known b rs) (option_or (first_refusal Current b rs) (option_or (first_refusal Same b rs) (full b))) accepted in
    let second = none_first (first_refusal Current b rs) (option_or (first_refusal Same b rs) (full b)) first.1 in
    let third = none_first (first_refusal Same b rs) (full b) second.1 in
    let same : find_confs (participants_of e.action) (states_held b) ≡ map Some (read_confs rs) =
    subst (λ (ks : List Component). find_confs ks (states_held b) ≡ map Some (read_confs rs)) true_proposal.participants (all_held b rs first.0 third.0) in
    rw (same, no_absent (read_confs rs), true_proposal.steps) refl

-- it leaves room for its entry
pub room_for : (b : PlainBook) (rs : List PlainVersionedConf) → refusal_of b rs ≡ None → length b.log < b.limit
room_for b rs accepted =
    let first = none_first (first_refusal Known b rs) (option_or (first_refusal Current b rs) (option_or (first_refusal Same b rs) (full b))) accepted in
    let second = none_first (first_refusal Current b rs) (option_or (first_refusal Same b rs) (full b)) first.1 in
    let third = none_first (first_refusal Same b rs) (full b) second.1 in
    room_left b third.1

-- a book in which nothing is recorded yet
pub kept_new : (start : List Conf) (held : List PlainVersionedConf) (indexed : List Component) (log : List PlainEntry) (limit : ℕ) → log ≡ [] → held ≡ map (with_version []) start → indexed ≡ component_names start → limit ≤ 1000000 → IsKept start held indexed log limit
kept_new start held indexed log limit none first components small =
    let confs : read_confs held ≡ start = ap read_confs first ∙ confs_among [] start in
    rw none (record {
      replayed = rw confs refl;
      versions = rw confs first;
      components = rw confs components;
      within = omega arith;
      limited = small;
    })

module _ (start : List Conf) (held : List PlainVersionedConf) (indexed : List Component) (log : List PlainEntry) (limit : ℕ) (kept : IsKept start held indexed log limit) where
  states : states_after start log ≡ read_confs held
  states = held_is start (read_confs held) log kept.replayed

  -- what the book holds of a component is in its slot
  pub some_held : (k : Component) (m : ℕ) → Some m ≡ position_from (λ j. same_component k j) 0 indexed → slice_get held m ≡ held_of (plain_book start log limit) k
  some_held k m found =
      rw states (ap (λ (hs : List PlainVersionedConf). slice_get hs m) kept.versions ∙ found_at log k (read_confs held) m (rw kept.components at (sym found)))

  pub none_held : (k : Component) → None ≡ position_from (λ j. same_component k j) 0 indexed → None ≡ held_of (plain_book start log limit) k
  none_held k found = rw states (none_found log k (read_confs held) (rw kept.components at (sym found)))

  -- what is held is what the log leads to, each with its version
  pub versions_kept : held ≡ map (with_version log) (states_after start log)
  versions_kept = rw states kept.versions

  pub components_kept : indexed ≡ component_names (states_after start log)
  components_kept = rw states kept.components

  pub log_leads : replay log start ≡ Some (states_after start log)
  log_leads = rw states kept.replayed

  -- the components are the same when the versions for an action are raised
  pub raised_components : (e : PlainEntry) → indexed ≡ map read_component (raise_at e.action (own_slots (node_of e.action) 0 indexed) held)
  raised_components e =
      let small : length log ≤ 1000000 = omega (arith, kept.within, kept.limited) in
      let all : raise_at e.action (own_slots (node_of e.action) 0 indexed) held ≡ map (with_version (log ++ e ∷ [])) (read_confs held) =
      ap (λ (hs : List PlainVersionedConf). raise_at e.action (own_slots (node_of e.action) 0 indexed) hs) kept.versions
      ∙ ap (λ (ks : List Component). raise_at e.action (own_slots (node_of e.action) 0 ks) (map (with_version log) (read_confs held))) kept.components
      ∙ raised e log small (read_confs held) in
      kept.components ∙ sym (ap (λ (hs : List PlainVersionedConf). map read_component hs) all ∙ held_components (log ++ e ∷ []) (read_confs held))

  module _ (e again : PlainEntry) (rs : List PlainVersionedConf) (changed : List Conf) (true_proposal : IsTrueProposal e again rs changed) (accepted : refusal_of (plain_book start log limit) rs ≡ None) where
    abbrev pub confs : List Conf
    confs = read_confs held

    -- the joint step from what is held
    step_held : joint_answer e confs ≡ Ok (put_confs changed confs)
    step_held =
        let are : states_after start log ≡ confs = held_is start confs log kept.replayed in
        rw (are) at (step_made (plain_book start log limit) e again rs changed true_proposal accepted)

    replay_made : replay (log ++ e ∷ []) start ≡ Some (put_confs changed confs)
    replay_made = replay-push log e start confs (put_confs changed confs) kept.replayed step_held

    -- what is held then
    held_then : put_all_held changed (raise_at e.action (own_slots (node_of e.action) 0 indexed) held) ≡ map (with_version (log ++ e ∷ [])) (put_confs changed confs)
    held_then =
        let small : length log ≤ 1000000 = omega (arith, kept.within, kept.limited) in
        subst (λ (ks : List Component). put_all_held changed (raise_at e.action (own_slots (node_of e.action) 0 ks) held) ≡ map (with_version (log ++ e ∷ [])) (put_confs changed confs)) (sym kept.components)
        (ap (λ (hs : List PlainVersionedConf). put_all_held changed (raise_at e.action (own_slots (node_of e.action) 0 (component_names confs)) hs)) kept.versions
        ∙ ap (λ (hs : List PlainVersionedConf). put_all_held changed hs) (raised e log small confs)
        ∙ put_all_versions (log ++ e ∷ []) changed confs)

    -- the law of the book holds of it
    pub kept_commit : IsKept start (put_all_held changed (raise_at e.action (own_slots (node_of e.action) 0 indexed) held)) indexed (log ++ again ∷ []) limit
    kept_commit =
        let room : length log < limit = room_for (plain_book start log limit) rs accepted in
        let then_confs : read_confs (put_all_held changed (raise_at e.action (own_slots (node_of e.action) 0 indexed) held)) ≡ put_confs changed confs = ap read_confs held_then ∙ confs_among (log ++ e ∷ []) (put_confs changed confs) in
        rw (true_proposal.same) (record {
          replayed = rw then_confs replay_made;
          versions = rw then_confs held_then;
          components = rw (then_confs, component_names-put_confs changed confs) kept.components;
          within = omega (arith, room, length-append log (e ∷ []));
          limited = kept.limited;
        })

    -- the step leads to the configurations held then
    pub step_kept : joint_answer e (states_after start log) ≡ Ok (states_after start (log ++ e ∷ []))
    step_kept =
        rw (held_is start confs log kept.replayed, held_is start (put_confs changed confs) (log ++ e ∷ []) replay_made) step_held

    -- so the commit is made
    pub committed : (l index : ℕ) (new : List PlainEntry) → index ≡ length log → new ≡ log ++ again ∷ [] →
        IsCommitted (plain_book start log limit) (plain_proposal e l rs) index e (plain_book start new limit)
    committed l index new at appended =
        let same : new ≡ log ++ e ∷ [] = appended ∙ ap (λ (x : PlainEntry). log ++ x ∷ []) true_proposal.same in
        rw same (record { accepted = accepted; at = at; entry = refl; recorded = refl; step = step_kept })

-- what is held as it was read passes each test
passed_held : (b : PlainBook) (r : PlainVersionedConf) → held_of b (read_component r) ≡ Some r → (test : Test) → refusal_by test r (held_of b (read_component r)) ≡ None
passed_held b r h Known = rw h refl
passed_held b r h Current = rw (h, (Decides-eqb r.version r.version).1 refl) refl
passed_held b r h Same = rw (h, (same_conf_is r.conf r.conf).1 refl) refl

all_passed : (b : PlainBook) (rs : List PlainVersionedConf) → AllHeld b rs → (test : Test) → first_refusal test b rs ≡ None
all_passed b [] all test = refl
all_passed b (r ∷ rs) all test = rw (passed_held b r all.0 test, all_passed b rs all.1 test) refl

-- so a proposal whose reads are held so stands, if there is room
pub held_stands : (b : PlainBook) (rs : List PlainVersionedConf) → AllHeld b rs → nat_lt (length b.log) b.limit ≡ true → refusal_of b rs ≡ None
held_stands b rs all room = rw (all_passed b rs all Known, all_passed b rs all Current, all_passed b rs all Same, room) refl
