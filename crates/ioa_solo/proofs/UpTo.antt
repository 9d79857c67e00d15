-- What a worker sees of a book that it has for itself is never older than it has seen.
use Rattle.std.proofs.Common.{◌≡◌, ◌⊎◌, inl, inr, ◌≤◌, ◌+◌, ℕ, ℤ, max, Bool, true, false, List, [], ◌∷◌, ◌++◌, Option, Some, None, Result, Ok, Err}
use Rattle.std.proofs.Common.{if◌then◌else◌, refl, sym, ap, subst, ◌∙◌, map, length, arith}
use Rattle.std.specs.Prelude.{IfErr, OnErr, OnOk, filter, is_some, nat_lt}
use Rattle.std.specs.List.{AllByRecursion}
use Rattle.std.specs.Ordering.{int_eq}
use Rattle.std.specs.Option.{option_map}
use Rattle.std.proofs.lemmas.Bool.{le-ltb}
use Rattle.std.proofs.lemmas.List.{length-append}
use Rattle.std.proofs.lemmas.List.Elements.{filter-append}
use Rattle.ioa_values.specs.Outcome.{Answers, and_then}
use Rattle.ioa_actions.specs.ActionParts.{node_of}
use Rattle.ioa_actions.specs.ComponentOrder.{same_component}
use Rattle.ioa_actions.specs.declared.action.Action.{Action}
use Rattle.ioa_actions.specs.declared.action.Action.TheVariants.{Send, Receive, Local, Stimulus}
use Rattle.ioa_actions.specs.declared.component.Component.{Component}
use Rattle.ioa_actions.specs.declared.component.Component.TheVariants as component
use Rattle.ioa_actions.specs.declared.fault.StepFault.{StepFault}
use Rattle.ioa_actions.proofs.SameComponents.{Decides-same_component, same_component-itself}
use Rattle.ioa_transitions.specs.Entries.{PlainEntry}
use Rattle.ioa_compose.specs.Composition.{component_of, find_conf, find_confs, picks_of}
use Rattle.ioa_compose.specs.Participants.{participants_of, takes_part}
use Rattle.ioa_compose.specs.declared.configuration.Conf.{Conf}
use Rattle.ioa_compose.proofs.Components.{name_found}
use Rattle.ioa_commits.specs.Books.{PlainBook, held_of, states_held}
use Rattle.ioa_index.specs.Own.{concerns}
use Rattle.ioa_commits.specs.Proposals.{PlainProposal, plain_proposal}
use Rattle.ioa_commits.specs.Slots.{next_version}
use Rattle.ioa_commits.specs.Versions.{PlainVersionedConf, read_component, version, with_version}
use Rattle.ioa_book.specs.Looks.{PlainSnapshot, snapshot_after}
use Rattle.ioa_book.specs.Proposals.{one_or_none, proposal_answer, reads_held}
use Rattle.ioa_book.specs.declared.outcome.LookFault.TheVariants as look
use Rattle.ioa_book.proofs.FreshLooks.{fresh_proposal}
use Rattle.ioa_held.specs.Attempts.{IsTaken}
use Rattle.ioa_passes.specs.Looks.{admitted, unless_older, view_answer}
use Rattle.ioa_passes.specs.Passes.{PlainPass, first_older, older, plain_pass, raise_all, raise_all_next}
use Rattle.ioa_passes.specs.Passes.{raise_next, raise_read, raise_seen, risen, risen_by_look, seen_of}
use Rattle.ioa_passes.specs.declared.outcome.Older.{Older}
use Rattle.ioa_passes.specs.declared.outcome.ViewFault.{ViewFault}
use Rattle.ioa_passes.specs.declared.outcome.ViewFault.TheVariants as view
use Rattle.ioa_passes.specs.declared.pass.Seen.{Seen}
use Rattle.ioa_solo.specs.Told.{AreUpTo, IsUpTo}

same_of : (k l : Component) → same_component k l ≡ true → k ≡ l
same_of k l e = (Decides-same_component k l).0 e

-- what was seen of a component is not ahead of the log
seen_upto : (log : List PlainEntry) (k : Component) (seen : List Seen) → AreUpTo log seen → seen_of k seen ≤ version k log
seen_upto log k [] h = omega arith
seen_upto log k (s ∷ more) h = by_name (same_component k s.component) refl (seen_upto log k more h.1)
  where
    by_name : (t : Bool) → same_component k s.component ≡ t → seen_of k more ≤ version k log → (if t then s.version else seen_of k more) ≤ version k log
    by_name true e others = subst (λ (j : Component). s.version ≤ version j log) (sym (same_of k s.component e)) h.0
    by_name false e others = others

-- nor is it once it is raised to a version that the log has
raised_upto : (log : List PlainEntry) (k : Component) (v : ℕ) (seen : List Seen) → v ≤ version k log → AreUpTo log seen → AreUpTo log (raise_seen k v seen)
raised_upto log k v [] within h = tt
raised_upto log k v (s ∷ more) within h = by_name (same_component k s.component) refl (raised_upto log k v more within h.1)
  where
    by_name : (t : Bool) → same_component k s.component ≡ t → AreUpTo log (raise_seen k v more) → AreUpTo log (if t then risen v s ∷ more else s ∷ raise_seen k v more)
    by_name true e others =
        let low : v ≤ version s.component log = subst (λ (j : Component). v ≤ version j log) (same_of k s.component e) within in
        let here : s.version ≤ version s.component log = h.0 in
        (omega (arith, low, here), h.1)
    by_name false e others = (h.0, others)

-- as a look at the log does
raised_by_look : (log : List PlainEntry) (cs : List Conf) (seen : List Seen) → AreUpTo log seen → AreUpTo log (raise_all (map (with_version log) cs) seen)
raised_by_look log [] seen h = h
raised_by_look log (c ∷ cs) seen h =
    let same : version (component_of c) log ≤ version (component_of c) log = omega arith in
    raised_by_look log cs (raise_read (with_version log c) seen) (raised_upto log (component_of c) (version (component_of c) log) seen same h)

-- so a look at the log shows nothing older
none_older : (log : List PlainEntry) (seen : List Seen) (cs : List Conf) → AreUpTo log seen → first_older seen (map (with_version log) cs) ≡ None
none_older log seen [] h = refl
none_older log seen (c ∷ cs) h =
    let low : nat_lt (version (component_of c) log) (seen_of (component_of c) seen) ≡ false = le-ltb (version (component_of c) log) (seen_of (component_of c) seen) (seen_upto log (component_of c) seen h) in
    rw (low, none_older log seen cs h) refl

pub look_shows : (b : PlainBook) (n : ℤ) (p : PlainPass) → IsUpTo b p → older p (snapshot_after n b.start b.log) ≡ None
look_shows b n p h =
    let long : nat_lt (length b.log) p.length ≡ false = le-ltb (length b.log) p.length h.log in
    rw (none_older b.log p.seen (filter (λ c. concerns n (component_of c)) (states_held b)) h.versions, long) refl

pub look_upto : (b : PlainBook) (n : ℤ) (p : PlainPass) → IsUpTo b p → IsUpTo b (risen_by_look (snapshot_after n b.start b.log) p)
look_upto b n p h = record {
  log = omega (arith, h.log);
  versions = raised_by_look b.log (filter (λ c. concerns n (component_of c)) (states_held b)) p.seen h.versions;
}

-- a look is one at the book as it is
pub shown : (b : PlainBook) (n : ℤ) (p : PlainPass) (s : PlainSnapshot) → view_answer b p n ≡ Ok s → s ≡ snapshot_after n b.start b.log
shown b n p s h = by_there (is_some (held_of b (component.Node n))) h
  where
    by_older : (o : Option Older) → unless_older o (snapshot_after n b.start b.log) ≡ Ok s → s ≡ snapshot_after n b.start b.log
    by_older None e = cc
    by_older (Some o) e = absurd (cc)

    by_there : (t : Bool) → admitted p (if t then Ok (snapshot_after n b.start b.log) else Err look.Unknown) ≡ Ok s → s ≡ snapshot_after n b.start b.log
    by_there true e = by_older (older p (snapshot_after n b.start b.log)) e
    by_there false e = absurd (cc)

-- and there is none only where there is no such node
pub not_shown : (b : PlainBook) (n : ℤ) (p : PlainPass) (f : ViewFault) → IsUpTo b p → view_answer b p n ≡ Err f → (f ≡ view.Unknown) × (is_some (held_of b (component.Node n)) ≡ false)
not_shown b n p f up h = by_there (is_some (held_of b (component.Node n))) h
  where
    by_there : (t : Bool) → admitted p (if t then Ok (snapshot_after n b.start b.log) else Err look.Unknown) ≡ Err f → (f ≡ view.Unknown) × (t ≡ false)
    by_there true e = let bad = rw (look_shows b n p up) at e in absurd (cc)
    by_there false e = (cc, refl)

-- the version after one more entry
version_push : (k : Component) (log : List PlainEntry) (e : PlainEntry) → version k (log ++ e ∷ []) ≡ (if takes_part k e.action then version k log + 1 else version k log)
version_push k log e =
    ap length (filter-append (λ d. takes_part k d.action) log (e ∷ []))
    ∙ length-append (filter (λ d. takes_part k d.action) log) (filter (λ d. takes_part k d.action) (e ∷ []))
    ∙ by_test (takes_part k e.action)
  where
    by_test : (b : Bool) → length (filter (λ d. takes_part k d.action) log) + length (if b then e ∷ [] else []) ≡ (if b then version k log + 1 else version k log)
    by_test true = refl
    by_test false = omega arith

version_grows : (k : Component) (log : List PlainEntry) (e : PlainEntry) → version k log ≤ version k (log ++ e ∷ [])
version_grows k log e = by_test (takes_part k e.action) (version_push k log e)
  where
    by_test : (b : Bool) → version k (log ++ e ∷ []) ≡ (if b then version k log + 1 else version k log) → version k log ≤ version k (log ++ e ∷ [])
    by_test true h = omega (arith, h)
    by_test false h = omega (arith, h)

grown : (log : List PlainEntry) (e : PlainEntry) (seen : List Seen) → AreUpTo log seen → AreUpTo (log ++ e ∷ []) seen
grown log e [] h = tt
grown log e (s ∷ more) h =
    let more_steps : version s.component log ≤ version s.component (log ++ e ∷ []) = version_grows s.component log e in
    let here : s.version ≤ version s.component log = h.0 in
    (omega (arith, more_steps, here), grown log e more h.1)

-- what a commit leaves is in the log
AreNext : List PlainEntry → List PlainVersionedConf → Type 0
AreNext log rs = AllByRecursion (λ r. next_version r.version ≤ version (read_component r) log) rs

raised_by_commit : (log : List PlainEntry) (rs : List PlainVersionedConf) (seen : List Seen) → AreNext log rs → AreUpTo log seen → AreUpTo log (raise_all_next rs seen)
unfolding AreNext
raised_by_commit log [] seen next h = h
raised_by_commit log (r ∷ rs) seen next h =
    raised_by_commit log rs (raise_next r seen) next.1 (raised_upto log (read_component r) (next_version r.version) seen next.0 h)

held_next : (b : PlainBook) (e : PlainEntry) (ks : List Component) → AllByRecursion (λ k. takes_part k e.action ≡ true) ks → AreNext (b.log ++ e ∷ []) (reads_held b ks)
unfolding AreNext
held_next b e [] h = tt
held_next b e (k ∷ ks) h = by_conf (find_conf k (states_held b)) refl (held_next b e ks h.1)
  where
    next : (c : Conf) → component_of c ≡ k → next_version (version (component_of c) b.log) ≤ version (component_of c) (b.log ++ e ∷ [])
    next c same =
        let part : takes_part (component_of c) e.action ≡ true = rw same h.0 in
        let one_more : version (component_of c) (b.log ++ e ∷ []) ≡ version (component_of c) b.log + 1 = version_push (component_of c) b.log e ∙ rw part refl in
        omega (arith, one_more)

    by_conf : (o : Option Conf) → find_conf k (states_held b) ≡ o → AreNext (b.log ++ e ∷ []) (reads_held b ks) → AreNext (b.log ++ e ∷ []) (one_or_none (option_map (with_version b.log) o) ++ reads_held b ks)
    by_conf None f others = others
    by_conf (Some c) f others = (next c (name_found k (states_held b) c f), others)

-- the participants of an action take part in it
all_take_part : (a : Action) → AllByRecursion (λ k. takes_part k a ≡ true) (participants_of a)
all_take_part (Send m i j) = (same_component-itself (component.Channel i j), (same_component-itself (component.Node i), tt))
all_take_part (Receive m i j) = (same_component-itself (component.Channel i j), (same_component-itself (component.Node j), tt))
all_take_part (Local a) = (same_component-itself (component.Node a.node), tt)
all_take_part (Stimulus a) = (same_component-itself (component.Script a.node), (same_component-itself (component.Node a.node), tt))

-- a proposal on the book as it is has read what the book holds
proposed_reads : (b : PlainBook) (n : ℤ) (a : Action) (x : PlainProposal) → proposal_answer a (snapshot_after n b.start b.log) ≡ Ok x → x.reads ≡ reads_held b (participants_of a)
proposed_reads b n a x h = by_mine (int_eq (node_of a) n) refl
  where
    by_picks : (r : Result (PlainEntry × List Conf) StepFault) → and_then r (λ t. Ok (plain_proposal t.0 (length b.log) (reads_held b (participants_of a)))) ≡ Ok x → x.reads ≡ reads_held b (participants_of a)
    by_picks (Ok t) e =
        let same : plain_proposal t.0 (length b.log) (reads_held b (participants_of a)) ≡ x = cc in
        ap (λ (y : PlainProposal). y.reads) (sym same)
    by_picks (Err f) e = absurd (cc)

    by_mine : (t : Bool) → int_eq (node_of a) n ≡ t → x.reads ≡ reads_held b (participants_of a)
    by_mine true e = by_picks (picks_of a (find_confs (participants_of a) (states_held b))) (sym (fresh_proposal b n a e) ∙ h)
    by_mine false e = let bad = rw e at h in absurd (cc)

-- so after its commit the pass is not ahead
pub commit_upto : (old new : PlainBook) (n : ℤ) (x : PlainProposal) (p q : PlainPass) (i : ℕ) (e : PlainEntry) → IsUpTo old p →
    proposal_answer x.entry.action (snapshot_after n old.start old.log) ≡ Ok x → IsTaken old x p i e new q → IsUpTo new q
commit_upto old new n x p q i e up proposed h =
    let log : List PlainEntry = old.log ++ x.entry ∷ [] in
    let reads : x.reads ≡ reads_held old (participants_of x.entry.action) = proposed_reads old n x.entry.action x proposed in
    let next : AreNext log x.reads = rw reads (held_next old x.entry (participants_of x.entry.action) (all_take_part x.entry.action)) in
    let long : length log ≡ length old.log + 1 = length-append old.log (x.entry ∷ []) in
    let risen : IsUpTo (record old { log = old.log ++ x.entry ∷ [] }) (plain_pass (raise_all_next x.reads p.seen) (max p.length (i + 1))) =
    record {
      log = omega (arith, long, up.log, h.commit.at);
      versions = raised_by_commit log x.reads p.seen next (grown old.log x.entry p.seen up.versions);
    } in
    rw (h.pass, h.commit.recorded) risen

-- what a look has told, if there is one
pub seen_first : (b : PlainBook) (n : ℤ) (p q : PlainPass) (s : PlainSnapshot) → IsUpTo b p → view_answer b p n ≡ Ok s → q ≡ risen_by_look s p → IsUpTo b q
seen_first b n p q s up h risen =
    subst (λ (r : PlainPass). IsUpTo b r) (sym (risen ∙ ap (λ (x : PlainSnapshot). risen_by_look x p) (shown b n p s h))) (look_upto b n p up)

pub not_seen : (b : PlainBook) (n : ℤ) (p : PlainPass) (f : ViewFault) → IsUpTo b p → (f ≡ view.Memory) ⊎ (view_answer b p n ≡ Err f) →
    (f ≡ view.Memory) ⊎ ((f ≡ view.Unknown) × (is_some (held_of b (component.Node n)) ≡ false))
not_seen b n p f up (inl e) = inl e
not_seen b n p f up (inr e) = inr (not_shown b n p f up e)

-- and of a look in its place
module _ {U : Type 0} (b : PlainBook) (n : ℤ) (p : PlainPass) (s : PlainSnapshot) where
  pub again_seen : (r : Result U ViewFault) → Answers view.Memory (λ _. s) r (view_answer b p n) → OnOk r (s ≡ snapshot_after n b.start b.log)
  again_seen (Ok u) h = shown b n p s h
  again_seen (Err f) h = tt

  pub again_fault : (r : Result U ViewFault) → IsUpTo b p → Answers view.Memory (λ _. s) r (view_answer b p n) →
      IfErr r (λ f. (f ≡ view.Memory) ⊎ ((f ≡ view.Unknown) × (is_some (held_of b (component.Node n)) ≡ false)))
  again_fault (Ok u) up h = tt
  again_fault (Err f) up h = not_seen b n p f up h

  pub again_upto : (r : Result U ViewFault) (q : PlainPass) → IsUpTo b p → Answers view.Memory (λ _. s) r (view_answer b p n) → OnOk r (q ≡ risen_by_look s p) → OnErr r (q ≡ p) → IsUpTo b q
  again_upto (Ok u) q up h risen kept = seen_first b n p q s up h risen
  again_upto (Err f) q up h risen kept = subst (λ (x : PlainPass). IsUpTo b x) (sym kept) up
