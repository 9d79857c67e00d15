-- An entry that is taken once more, on a look at the book as it is.
use Rattle.std.proofs.Common.{◌≡◌, ℕ, ℤ, Bool, true, false, List, [], ◌∷◌, ◌++◌, Option, Some, Result, Ok, Err, if◌then◌else◌, refl, sym, ap, subst, ◌∙◌, length}
use Rattle.std.specs.Prelude.{◌||◌}
use Rattle.std.proofs.lemmas.List.{append-nil}
use Rattle.std.specs.Option.{option_map}
use Rattle.std.specs.Ordering.{int_eq}
use Rattle.ioa_values.specs.Data.{Data}
use Rattle.ioa_values.specs.Outcome.{and_then}
use Rattle.ioa_actions.specs.ActionParts.{node_of}
use Rattle.ioa_actions.specs.declared.action.Action.{Action}
use Rattle.ioa_actions.specs.declared.action.Action.TheVariants.{Send, Receive, Local, Stimulus}
use Rattle.ioa_actions.specs.declared.component.Component.{Component}
use Rattle.ioa_actions.specs.declared.component.Component.TheVariants as component
use Rattle.ioa_actions.specs.declared.fault.StepFault.{StepFault}
use Rattle.ioa_actions.specs.declared.fault.StepFault.TheVariants.{NotEnabled, NotMine}
use Rattle.ioa_actions.proofs.SameComponents.{Decides-same_component, same_component-itself}
use Rattle.ioa_transitions.specs.Entries.{PlainEntry}
use Rattle.ioa_compose.specs.Composition.{find_conf, find_confs, joint_answer, picks_of, put_confs}
use Rattle.ioa_compose.specs.Participants.{participants_of}
use Rattle.ioa_compose.specs.declared.configuration.Conf.{Conf}
use Rattle.ioa_commits.specs.Books.{PlainBook, states_after, states_held}
use Rattle.ioa_commits.specs.Proposals.{PlainProposal, plain_proposal}
use Rattle.ioa_commits.specs.Versions.{PlainVersionedConf, read_confs}
use Rattle.ioa_book.specs.Looks.{IsLookAt, PlainSnapshot, snapshot_after}
use Rattle.ioa_book.specs.Proposals.{find_read, proposal_answer, reads_at, reads_held, step_answer}
use Rattle.ioa_compose.proofs.Picks.{picks_of-entry}
use Rattle.ioa_book.proofs.FoundReads.{found_conf}
use Rattle.ioa_book.proofs.FreshLooks.{conf_seen, fresh_proposal}
use Rattle.ioa_reasons.specs.Faulted.{IsFaulted}
use Rattle.ioa_reasons.specs.PlainReasons.{PlainFault, PlainPlace, PlainReason}
use Rattle.ioa_reasons.specs.Reasons.{IsReason, queue_among}
use Rattle.ioa_reasons.specs.Tests.{IsNodeReason}
use Rattle.ioa_reasons.specs.Unfit.{IsUnfit}
use Rattle.ioa_tell.specs.Events.{PlainEvent, taken}
use Rattle.ioa_tell.specs.Marks as mark
use Rattle.ioa_tell.specs.Steps.{HearsTaken, IsNext}
use Rattle.ioa_tell.specs.Told.{IsMissedIn, IsTakenFrom, TellsOn}

-- the configuration of what was read is the one that is found
pub conf_read : (k : Component) (rs : List PlainVersionedConf) (r : PlainVersionedConf) → find_read k rs ≡ Some r → find_conf k (read_confs rs) ≡ Some r.conf
conf_read k rs r h = found_conf k rs ∙ ap (λ (o : Option PlainVersionedConf). option_map (λ r. r.conf) o) h

-- a look at a node that shows a book as it is, is a look at its own node
pub own_look : (b : PlainBook) (n : ℤ) (s : PlainSnapshot) → IsLookAt b n s → IsLookAt b s.node s
own_look b n s h = h ∙ ap (λ (m : ℤ). snapshot_after m b.start b.log) (sym (ap (λ (t : PlainSnapshot). t.node) h))

-- two numbers that test as equal are the same
same_number : (i n : ℤ) → int_eq i n ≡ true → i ≡ n
same_number i n h = by_name ((Decides-same_component (component.Node i) (component.Node n)).0 h)
  where
    by_name : component.Node i ≡ component.Node n → i ≡ n
    by_name e = cc

-- an action that is proposed, or refused for another reason than its node, is one of the node that was looked at
own_ok : (a : Action) (s : PlainSnapshot) (x : PlainProposal) → proposal_answer a s ≡ Ok x → int_eq (node_of a) s.node ≡ true
own_ok a s x h = by_test (int_eq (node_of a) s.node) h
  where
    by_test : (b : Bool) → (if b then step_answer a s else Err NotMine) ≡ Ok x → b ≡ true
    by_test true e = refl
    by_test false e = absurd (cc)

own_missed : (a : Action) (s : PlainSnapshot) → proposal_answer a s ≡ Err NotEnabled → int_eq (node_of a) s.node ≡ true
own_missed a s h = by_test (int_eq (node_of a) s.node) h
  where
    by_test : (b : Bool) → (if b then step_answer a s else Err NotMine) ≡ Err NotEnabled → b ≡ true
    by_test true e = refl
    by_test false e = absurd (cc)

or_true : (s t : Bool) → t ≡ true → (s || t) ≡ true
or_true true t h = refl
or_true false t h = h

-- a look at the node of an action shows the queue that takes part as it is
queue_seen : (b : PlainBook) (a : Action) → queue_among (participants_of a) (read_confs (snapshot_after (node_of a) b.start b.log).reads) ≡ queue_among (participants_of a) (states_held b)
queue_seen b (Send m i j) = conf_seen b i (component.Channel i j) (rw (same_component-itself (component.Node i)) refl)
queue_seen b (Receive m i j) = conf_seen b j (component.Channel i j) (or_true (int_eq i j) (int_eq j j) (same_component-itself (component.Node j)))
queue_seen b (Local a) = refl
queue_seen b (Stimulus a) = conf_seen b a.node (component.Script a.node) (same_component-itself (component.Node a.node))

-- and its node
node_seen : (b : PlainBook) (n : ℤ) → find_conf (component.Node n) (read_confs (snapshot_after n b.start b.log).reads) ≡ find_conf (component.Node n) (states_held b)
node_seen b n = conf_seen b n (component.Node n) (same_component-itself (component.Node n))

-- a proposal is of the action that was proposed
pub proposed_same : (a : Action) (s : PlainSnapshot) (x : PlainProposal) → proposal_answer a s ≡ Ok x → x.entry.action ≡ a
proposed_same a s x h = by_own (int_eq (node_of a) s.node) h
  where
    by_picks : (r : Result (PlainEntry × List Conf) StepFault) → picks_of a (find_confs (participants_of a) (read_confs s.reads)) ≡ r →
        and_then r (λ t. Ok (plain_proposal t.0 s.length (reads_at (participants_of a) s.reads))) ≡ Ok x → x.entry.action ≡ a
    by_picks (Ok t) e g =
        let made : plain_proposal t.0 s.length (reads_at (participants_of a) s.reads) ≡ x = cc in
        ap (λ (q : PlainProposal). q.entry.action) (sym made) ∙ (picks_of-entry a (find_confs (participants_of a) (read_confs s.reads)) t.0 t.1 e).0
    by_picks (Err f) e g = absurd (cc)

    by_own : (b : Bool) → (if b then step_answer a s else Err NotMine) ≡ Ok x → x.entry.action ≡ a
    by_own true e = by_picks (picks_of a (find_confs (participants_of a) (read_confs s.reads))) refl e
    by_own false e = absurd (cc)

pub proposed_own : (a : Action) (s : PlainSnapshot) (x : PlainProposal) → proposal_answer a s ≡ Ok x → proposal_answer x.entry.action s ≡ Ok x
proposed_own a s x h = subst (λ (b : Action). proposal_answer b s ≡ Ok x) (sym (proposed_same a s x h)) h

-- an action that is missed on a look at the book as it is, is not enabled in the configurations held
pub missed_in : (b : PlainBook) (a : Action) (s : PlainSnapshot) (r : PlainReason) → IsLookAt b s.node s → proposal_answer a s ≡ Err NotEnabled → IsReason (queue_among (participants_of a) (read_confs s.reads)) a r → IsNodeReason (find_conf (component.Node (node_of a)) (read_confs s.reads)) a r → IsMissedIn (states_held b) a r
missed_in b a s r fresh h of_queue of_node = record {
  not_enabled = by_picks (picks_of a (find_confs (participants_of a) (states_held b))) picked;
  reason = subst (λ (o : Option Conf). IsReason o a r) seen_queue of_queue;
  test = subst (λ (o : Option Conf). IsNodeReason o a r) seen_node of_node;
}
  where
    own : int_eq (node_of a) s.node ≡ true
    own = own_missed a s h

    now : s ≡ snapshot_after (node_of a) b.start b.log
    now = fresh ∙ ap (λ (n : ℤ). snapshot_after n b.start b.log) (sym (same_number (node_of a) s.node own))

    seen_queue : queue_among (participants_of a) (read_confs s.reads) ≡ queue_among (participants_of a) (states_held b)
    seen_queue = ap (λ (t : PlainSnapshot). queue_among (participants_of a) (read_confs t.reads)) now ∙ queue_seen b a

    seen_node : find_conf (component.Node (node_of a)) (read_confs s.reads) ≡ find_conf (component.Node (node_of a)) (states_held b)
    seen_node = ap (λ (t : PlainSnapshot). find_conf (component.Node (node_of a)) (read_confs t.reads)) now ∙ node_seen b (node_of a)

    seen : proposal_answer a (snapshot_after s.node b.start b.log) ≡ Err NotEnabled
    seen = subst (λ (t : PlainSnapshot). proposal_answer a t ≡ Err NotEnabled) fresh h

    picked : and_then (picks_of a (find_confs (participants_of a) (states_held b))) (λ t. Ok (plain_proposal t.0 (length b.log) (reads_held b (participants_of a)))) ≡ Err NotEnabled
    picked = sym (fresh_proposal b s.node a own) ∙ seen

    by_picks : (r : Result (PlainEntry × List Conf) StepFault) → and_then r (λ t. Ok (plain_proposal t.0 (length b.log) (reads_held b (participants_of a)))) ≡ Err NotEnabled →
        and_then {B = PlainEntry × List Conf} r (λ t. Ok (t.0, put_confs t.1 (states_held b))) ≡ Err NotEnabled
    by_picks (Ok t) e = absurd (cc)
    by_picks (Err f) e = let same : f ≡ NotEnabled = cc in ap (λ (g : StepFault). Err g) same

-- the node of an action is on a look at the book as it is what it is in the configurations held
own_seen : (b : PlainBook) (a : Action) (s : PlainSnapshot) → IsLookAt b s.node s → node_of a ≡ s.node → find_conf (component.Node (node_of a)) (read_confs s.reads) ≡ find_conf (component.Node (node_of a)) (states_held b)
own_seen b a s fresh own =
    let now : s ≡ snapshot_after (node_of a) b.start b.log = fresh ∙ ap (λ (n : ℤ). snapshot_after n b.start b.log) (sym own) in
    ap (λ (r : PlainSnapshot). find_conf (component.Node (node_of a)) (read_confs r.reads)) now ∙ node_seen b (node_of a)

-- a step that met a fault on a look at the book as it is, met it in the configurations held
pub faulted_in : (b : PlainBook) (a : Action) (s : PlainSnapshot) (place : PlainPlace) (f : PlainFault) → IsLookAt b s.node s → node_of a ≡ s.node →
    IsFaulted (find_conf (component.Node (node_of a)) (read_confs s.reads)) a place f → IsFaulted (find_conf (component.Node (node_of a)) (states_held b)) a place f
faulted_in b a s place f fresh own h = subst (λ (o : Option Conf). IsFaulted o a place f) (own_seen b a s fresh own) h

-- and so does an argument that is not of its sort
pub unfit_in : (b : PlainBook) (a : Action) (s : PlainSnapshot) (w : List ℕ) (v : Data) → IsLookAt b s.node s → node_of a ≡ s.node →
    IsUnfit (find_conf (component.Node (node_of a)) (read_confs s.reads)) a w v → IsUnfit (find_conf (component.Node (node_of a)) (states_held b)) a w v
unfit_in b a s w v fresh own h = subst (λ (o : Option Conf). IsUnfit o a w v) (own_seen b a s fresh own) h

-- an entry that is taken and told
pub tells_taken : {S : Type 0} (hears : PlainEvent → S → S → Type 0) (old new : PlainBook) (look after : PlainSnapshot) (e : PlainEntry) (x : PlainProposal) (was : Conf) (k : ℕ) (y z : S) →
    IsLookAt old look.node look → proposal_answer x.entry.action look ≡ Ok x → x.entry ≡ e → find_conf (component.Node (node_of e.action)) (read_confs look.reads) ≡ Some was →
    IsNext old x.entry new → IsLookAt new look.node after → k ≡ look.length → HearsTaken hears after k e was y z → TellsOn hears old new (e ∷ []) [] y z (mark.took e ∷ [])
tells_taken {S} hears old new look after e x was k y z fresh proposed entry found next again count told = record {
  start = ap (λ (b : PlainBook). b.start) next.recorded;
  schedule = append_same ∙ grown;
  events = taken k e was told.after (queue_among (participants_of e.action) (read_confs after.reads)) ∷ [];
  heard = (z, told.heard, refl);
  told = (count ∙ ap (λ (s : PlainSnapshot). s.length) fresh, step, sym grown);
  marked = refl;
}
  where
    same : x.entry.action ≡ e.action
    same = ap (λ (f : PlainEntry). f.action) entry

    grown : new.log ≡ old.log ++ e ∷ []
    grown = ap (λ (b : PlainBook). b.log) next.recorded ∙ ap (λ (f : PlainEntry). old.log ++ f ∷ []) entry

    append_same : new.log ++ [] ≡ new.log
    append_same = append-nil new.log

    node : node_of e.action ≡ look.node
    node = sym (ap (λ (a : Action). node_of a) same) ∙ same_number (node_of x.entry.action) look.node (own_ok x.entry.action look x proposed)

    -- the configurations after it
    held : states_held new ≡ states_after old.start (old.log ++ e ∷ [])
    held = λ i. states_after (ap (λ (b : PlainBook). b.start) next.recorded i) (grown i)

    before : find_conf (component.Node (node_of e.action)) (states_held old) ≡ Some was
    before =
        let shown : find_conf (component.Node (node_of e.action)) (read_confs (snapshot_after look.node old.start old.log).reads) ≡ Some was =
        subst (λ (s : PlainSnapshot). find_conf (component.Node (node_of e.action)) (read_confs s.reads) ≡ Some was) fresh found in
        let there : find_conf (component.Node (node_of e.action)) (read_confs (snapshot_after (node_of e.action) old.start old.log).reads) ≡ Some was =
        subst (λ (n : ℤ). find_conf (component.Node (node_of e.action)) (read_confs (snapshot_after n old.start old.log).reads) ≡ Some was) (sym node) shown in
        sym (node_seen old (node_of e.action)) ∙ there

    now : after ≡ snapshot_after (node_of e.action) new.start new.log
    now = again ∙ ap (λ (n : ℤ). snapshot_after n new.start new.log) (sym node)

    becomes : find_conf (component.Node (node_of e.action)) (states_held new) ≡ Some told.after
    becomes = sym (node_seen new (node_of e.action)) ∙ subst (λ (s : PlainSnapshot). find_conf (component.Node (node_of e.action)) (read_confs s.reads) ≡ Some told.after) now told.shown

    beside : queue_among (participants_of e.action) (states_held new) ≡ queue_among (participants_of e.action) (read_confs after.reads)
    beside = sym (queue_seen new e.action) ∙ ap (λ (s : PlainSnapshot). queue_among (participants_of e.action) (read_confs s.reads)) (sym now)

    moved : joint_answer e (states_held old) ≡ Ok (states_held new)
    moved = subst (λ (f : PlainEntry). joint_answer f (states_held old) ≡ Ok (states_held new)) entry next.step

    step : IsTakenFrom (states_after old.start old.log) (states_after old.start (old.log ++ e ∷ [])) e was told.after (queue_among (participants_of e.action) (read_confs after.reads))
    step = subst (λ (cs : List Conf). IsTakenFrom (states_held old) cs e was told.after (queue_among (participants_of e.action) (read_confs after.reads))) held (record {
      step = moved;
      before = before;
      after = becomes;
      queue = beside;
    })
