-- Commits (profile): whether a proposal still stands, and what is recorded.
use Rattle.std.specs.Prelude.{◌≡◌, ◌<◌, ◌%◌, ℕ, nat_eq, nat_lt, if◌then◌else◌, List, [], ◌∷◌, ◌++◌, length}
use Rattle.std.specs.Prelude.{Option, Some, None, Ok}
use Rattle.std.specs.List.{AllByRecursion}
use Rattle.std.specs.Option.{option_or}
use Rattle.ioa_transitions.specs.Entries.{PlainEntry}
use Rattle.ioa_compose.specs.Composition.{component_names, find_conf, joint_answer}
use Rattle.ioa_compose.specs.SameConfs.{same_conf}
use Rattle.ioa_compose.specs.declared.configuration.Conf.{Conf}
use Rattle.ioa_commits.specs.Books.{PlainBook, held_of, holdings, states_held}
use Rattle.ioa_commits.specs.Proposals.{PlainProposal, node_read, queue_read}
use Rattle.ioa_commits.specs.Slots.{AreDistinct, AreHeldIn}
use Rattle.ioa_commits.specs.Versions.{PlainVersionedConf, read_component, version}
use Rattle.ioa_commits.specs.declared.outcome.CommitRefusal.{CommitRefusal}
use Rattle.ioa_commits.specs.declared.outcome.CommitRefusal.TheVariants.{Unknown, Stale, Differs, Full}
use Rattle.ioa_commits.specs.declared.standing.Test.{Test}
use Rattle.ioa_commits.specs.declared.standing.Test.TheVariants.{Known, Current, Same}

-- a component of which the book holds nothing
abbrev pub unknown_by : PlainVersionedConf → Option PlainVersionedConf → Option CommitRefusal
unknown_by r None = Some (Unknown (read_component r))
unknown_by r (Some held) = None

-- a component that took a step since it was read: its version is another one now
abbrev pub stale_by : PlainVersionedConf → Option PlainVersionedConf → Option CommitRefusal
stale_by r None = None
stale_by r (Some held) =
    if nat_eq r.version held.version then None else Some (Stale (read_component r) r.version held.version)

-- a component whose configuration is another one than was read
abbrev pub differs_by : PlainVersionedConf → Option PlainVersionedConf → Option CommitRefusal
differs_by r None = None
differs_by r (Some held) = if same_conf r.conf held.conf then None else Some (Differs (read_component r))

-- each test of what was read, by what is held
abbrev pub refusal_by : Test → PlainVersionedConf → Option PlainVersionedConf → Option CommitRefusal
refusal_by Known r held = unknown_by r held
refusal_by Current r held = stale_by r held
refusal_by Same r held = differs_by r held

-- the first that a test refuses of what was read
abbrev pub first_refusal : Test → PlainBook → List PlainVersionedConf → Option CommitRefusal
first_refusal test b [] = None
first_refusal test b (r ∷ rs) = option_or (refusal_by test r (held_of b (read_component r))) (first_refusal test b rs)

-- a book that has as many entries as it may
abbrev pub full : PlainBook → Option CommitRefusal
full b = if nat_lt (length b.log) b.limit then None else Some Full

-- why a proposal on what was read is refused: the first reason in this order, of the first participant
abbrev pub refusal_of : PlainBook → List PlainVersionedConf → Option CommitRefusal
refusal_of b rs =
    option_or (first_refusal Known b rs)
    (option_or (first_refusal Current b rs) (option_or (first_refusal Same b rs) (full b)))

-- what was read of a participant still stands: it is a component of the book, which holds it with the version and in
-- the configuration that were read
pub record StandsIn (b : PlainBook) (r : PlainVersionedConf) : Type 0 where
  pub held : Conf
  pub there : find_conf (read_component r) (states_held b) ≡ Some held
  pub version_read : r.version ≡ version (read_component r) b.log
  pub conf_read : r.conf ≡ held

-- each of what was read is held as it was read
abbrev pub AllHeld : PlainBook → List PlainVersionedConf → Type 0
AllHeld b rs = AllByRecursion (λ r. held_of b (read_component r) ≡ Some r) rs

-- a proposal that stands by what can be told quickly: no component has two slots, what was read of the queue, if one
-- takes part, and of the node is held in these slots, and the log has room for one entry more in its last block, of 64
pub record StandsQuickly (b : PlainBook) (rs : List PlainVersionedConf) (at slot : ℕ) : Type 0 where
  pub distinct : AreDistinct (component_names (states_held b))
  pub held : (r : PlainVersionedConf) → node_read rs ≡ Some r → AreHeldIn (holdings b) at slot (queue_read rs) r
  pub accepted : refusal_of b rs ≡ None
  pub room : 0 < length b.log % 64

-- a commit that is made: nothing was against it, its index is the length of the log, the log has the entry more, which
-- is handed out too, and the configurations held are those after the joint step by it (Lynch 8.2)
pub record IsCommitted (old : PlainBook) (p : PlainProposal) (index : ℕ) (handed_out : PlainEntry) (new : PlainBook)
    : Type 0 where
  pub accepted : refusal_of old p.reads ≡ None
  pub at : index ≡ length old.log
  pub entry : handed_out ≡ p.entry
  pub recorded : new ≡ record old { log = old.log ++ p.entry ∷ [] }
  pub step : joint_answer p.entry (states_held old) ≡ Ok (states_held new)

-- a commit that is refused, for the first reason against it; the book is as it was, and the proposal is handed back
pub record IsRefused (old : PlainBook) (p : PlainProposal) (why : CommitRefusal) (back : PlainProposal)
    (new : PlainBook) : Type 0 where
  pub reason : refusal_of old p.reads ≡ Some why
  pub handed_back : back ≡ p
  pub unchanged : new ≡ old
