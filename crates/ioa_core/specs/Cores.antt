-- The core machine (profile): hands that look, propose and commit, one event after another. It keeps where a run began,
-- what was recorded since, and what each hand holds: no configuration that is held, and no version.
use Rattle.std.specs.Prelude.{◌≡◌, ◌⊎◌, ◌+◌, ◌<◌, ℕ, ℤ, nat_lt, Bool, true, false, if◌then◌else◌, List, [], ◌∷◌, ◌++◌}
use Rattle.std.specs.Prelude.{drop, get_or, is_some, length, refl, set, slice_get, take, find}
use Rattle.std.specs.Prelude.{Option, Some, None, Result, Ok, Err}
use Rattle.std.specs.Coded.{Coded, code_by, coded×, coded⊎, coded_ℕ, coded_ℤ, coded_list}
use Rattle.std.specs.List.{list_any}
use Rattle.std.specs.Ordering.{int_eq}
use base.Stored.{coded_unit}
use mathlib.Core.Logic.{inl, inr}
use Rattle.ioa_actions.specs.ActionParts.{node_of}
use Rattle.ioa_actions.specs.declared.action.Action.{Action}
use Rattle.ioa_actions.specs.declared.component.Component.{Component}
use Rattle.ioa_actions.specs.declared.component.Component.TheVariants.{Node}
use Rattle.ioa_actions.specs.declared.fault.StepFault.{StepFault}
use Rattle.ioa_actions.specs.declared.fault.StepFault.TheVariants.{NotMine}
use Rattle.ioa_transitions.specs.Entries.{PlainEntry, entry_code}
use Rattle.ioa_compose.specs.Composition.{find_conf, joint_pick}
use Rattle.ioa_compose.specs.Participants.{participants_of, takes_part}
use Rattle.ioa_compose.specs.contracts.configuration.Conf as conf
use Rattle.ioa_compose.specs.declared.configuration.Conf.{Conf}
use Rattle.ioa_commits.specs.Books.{PlainBook, plain_book, states_after}
use Rattle.ioa_commits.specs.Versions.{version}
use Rattle.ioa_core.specs.declared.event.Event.{Event}
use Rattle.ioa_core.specs.declared.event.Event.TheVariants.{Look, Propose, Commit, Abandon}
use Rattle.ioa_core.specs.declared.reply.Reply.{Reply}
use Rattle.ioa_core.specs.declared.reply.Reply.TheVariants as reply

-- what a hand holds: nothing; a look at a node, when so many entries were recorded; or the entry of a proposal on a
-- look, when so many were
pub data PlainHand : Type 0 where
  empty : PlainHand
  looked : ℤ → ℕ → PlainHand
  proposed : PlainEntry → ℕ → PlainHand

-- the same as a sum (form)
abbrev pub hand_cases : PlainHand → Unit {0} ⊎ ((ℤ × ℕ) ⊎ (PlainEntry × ℕ))
hand_cases empty = inl tt
hand_cases (looked k n) = inr (inl (k, n))
hand_cases (proposed e n) = inr (inr (e, n))

abbrev pub hand_joined : Unit {0} ⊎ ((ℤ × ℕ) ⊎ (PlainEntry × ℕ)) → PlainHand
hand_joined (inl _) = empty
hand_joined (inr (inl t)) = looked t.0 t.1
hand_joined (inr (inr t)) = proposed t.0 t.1

pub hand_joined-cases : (h : PlainHand) → hand_joined (hand_cases h) ≡ h
hand_joined-cases empty = refl
hand_joined-cases (looked k n) = refl
hand_joined-cases (proposed e n) = refl

abbrev pub plain_hand_code : Coded PlainHand
plain_hand_code =
    code_by (Unit {0} ⊎ ((ℤ × ℕ) ⊎ (PlainEntry × ℕ)))
    (coded⊎ coded_unit (coded⊎ (coded× coded_ℤ coded_ℕ) (coded× entry_code coded_ℕ)))
    hand_cases hand_joined hand_joined-cases

-- a core: the configurations at the start, the entries recorded since, how many there may be, what each hand holds, and
-- how many commits each hand has made
pub record PlainCore : Type 0 where
  pub start : List Conf
  pub log : List PlainEntry
  pub limit : ℕ
  pub hands : List PlainHand
  pub counts : List ℕ

abbrev pub plain_core : List Conf → List PlainEntry → ℕ → List PlainHand → List ℕ → PlainCore
plain_core start log limit hands counts =
    record { start = start; log = log; limit = limit; hands = hands; counts = counts }

abbrev pub plain_core_code : Coded PlainCore
plain_core_code =
    code_by (List Conf × (List PlainEntry × (ℕ × (List PlainHand × List ℕ))))
    (coded× (coded_list conf.the_row.coded)
    (coded× (coded_list entry_code) (coded× coded_ℕ (coded× (coded_list plain_hand_code) (coded_list coded_ℕ)))))
    (λ c. (c.start, (c.log, (c.limit, (c.hands, c.counts)))))
    (λ t. plain_core t.0 t.1.0 t.1.1.0 t.1.1.1.0 t.1.1.1.1) (λ _. refl)

-- what a core has recorded, as a book
abbrev pub book_of : PlainCore → PlainBook
book_of c = plain_book c.start c.log c.limit

-- whether a component has taken part in an entry since so many were recorded (Lynch 8.2)
abbrev pub touched : List PlainEntry → ℕ → Component → Bool
touched log n k = list_any (λ e. takes_part k e.action) (drop n log)

-- the core, if a hand holds this
abbrev pub with_hand : PlainCore → ℕ → PlainHand → PlainCore
with_hand c w h =
    record { start = c.start; log = c.log; limit = c.limit; hands = set c.hands w h; counts = c.counts }

-- the core after a hand has committed an entry
abbrev pub recorded : PlainCore → ℕ → PlainEntry → PlainCore
recorded c w e =
    record {
      start = c.start;
      log = c.log ++ e ∷ [];
      limit = c.limit;
      hands = c.hands;
      counts = set c.counts w (get_or c.counts w 0 + 1);
    }

-- a look of hand w at node k: there has to be such a node at the start
abbrev pub look_answer : PlainCore → ℕ → ℤ → Reply × PlainCore
look_answer c w k =
    if is_some (find_conf (Node k) c.start) then (reply.Looked, with_hand c w (looked k (length c.log)))
    else (reply.NoNode, c)

-- a proposal of hand w on a look when n entries were recorded, by what the composition picks
abbrev pub proposed_by : PlainCore → ℕ → ℕ → Result (PlainEntry × List Conf) StepFault → Reply × PlainCore
proposed_by c w n (Ok t) = (reply.Proposed, with_hand c w (proposed t.0 n))
proposed_by c w n (Err f) = (reply.Refused f, c)

-- a proposal of hand w on a look at node k when n entries were recorded: the action has to be the node's, and a joint
-- step (Lynch 8.2) after these entries
abbrev pub propose_on : PlainCore → ℕ → Action → ℤ → ℕ → Reply × PlainCore
propose_on c w a k n =
    proposed_by c w n
    (if int_eq (node_of a) k then joint_pick a (states_after c.start (take n c.log)) else Err NotMine)

-- the same, by what the hand holds
abbrev pub propose_in : PlainCore → ℕ → Action → PlainHand → Reply × PlainCore
propose_in c w a empty = (reply.NothingLooked, c)
propose_in c w a (looked k n) = propose_on c w a k n
propose_in c w a (proposed e n) = (reply.NothingLooked, c)

-- a commit by hand w of an entry that was proposed when n entries were recorded, by the first participant that was
-- touched since
abbrev pub commit_by : PlainCore → ℕ → PlainEntry → ℕ → Option Component → Reply × PlainCore
commit_by c w e n (Some k) = (reply.Stale k (version k (take n c.log)) (version k c.log), c)
commit_by c w e n None =
    if nat_lt (length c.log) c.limit then (reply.Committed (length c.log), recorded c w e) else (reply.Full, c)

abbrev pub commit_on : PlainCore → ℕ → PlainEntry → ℕ → Reply × PlainCore
commit_on c w e n = commit_by c w e n (find (touched c.log n) (participants_of e.action))

-- the same, by what the hand holds: it is empty afterwards, whatever comes of the commit
abbrev pub commit_in : PlainCore → ℕ → PlainHand → Reply × PlainCore
commit_in c w empty = (reply.NothingProposed, c)
commit_in c w (looked k n) = (reply.NothingProposed, c)
commit_in c w (proposed e n) = commit_on (with_hand c w empty) w e n

-- the hand of an event
abbrev pub hand_of : Event → ℕ
hand_of (Look w k) = w
hand_of (Propose w a) = w
hand_of (Commit w) = w
hand_of (Abandon w) = w

-- what an event comes to, by what its hand holds
abbrev pub answer_in : PlainCore → Event → PlainHand → Reply × PlainCore
answer_in c (Look w k) h = look_answer c w k
answer_in c (Propose w a) h = propose_in c w a h
answer_in c (Commit w) h = commit_in c w h
answer_in c (Abandon w) h = (reply.Abandoned, with_hand c w empty)

-- the same, if there is such a hand
abbrev pub answer_by : PlainCore → Event → Option PlainHand → Reply × PlainCore
answer_by c e None = (reply.NoHand, c)
answer_by c e (Some h) = answer_in c e h

-- the reply to an event, and the core after it
unfoldable pub answer : PlainCore → Event → Reply × PlainCore
answer c e = answer_by c e (slice_get c.hands (hand_of e))

-- the replies to events, one after another
abbrev pub replies : PlainCore → List Event → List Reply
replies c [] = []
replies c (e ∷ more) = (answer c e).0 ∷ replies (answer c e).1 more

-- the core after them
abbrev pub core_after : PlainCore → List Event → PlainCore
core_after c [] = c
core_after c (e ∷ more) = core_after (answer c e).1 more

-- a core that was halted among events: the replies are those to the first of them, not to all, and the core is the one
-- after these
pub record IsHaltedAt (old : PlainCore) (events : List Event) (told : List Reply) (new : PlainCore) : Type 0 where
  pub count : ℕ
  pub shorter : count < length events
  pub told_are : told ≡ replies old (take count events)
  pub stands : new ≡ core_after old (take count events)

-- whether there is a hand that holds a proposal
abbrev pub has_proposal : Option PlainHand → Bool
has_proposal None = false
has_proposal (Some empty) = false
has_proposal (Some (looked k n)) = false
has_proposal (Some (proposed e n)) = true
