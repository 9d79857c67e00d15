-- Proposals of entries (profile): what a step would do to the configurations that were read.
use Rattle.std.specs.Prelude.{◌≡◌, ℕ, List, [], ◌∷◌, map, Option, Some, None, Ok, refl}
use Rattle.std.specs.Coded.{Coded, code_by, coded×, coded_ℕ, coded_list}
use Rattle.ioa_transitions.specs.Entries.{PlainEntry, entry_code}
use Rattle.ioa_compose.specs.Composition.{own_steps}
use Rattle.ioa_compose.specs.Participants.{participants_of}
use Rattle.ioa_compose.specs.contracts.configuration.Conf as conf
use Rattle.ioa_compose.specs.declared.configuration.Conf.{Conf}
use Rattle.ioa_commits.specs.Versions.{PlainVersionedConf, versioned_conf_code, read_component, read_confs}

-- what was read of a participant, and its configuration after its own step
pub record PlainParticipant : Type 0 where
  pub read : PlainVersionedConf
  pub next : Conf

abbrev pub plain_participant : PlainVersionedConf → Conf → PlainParticipant
plain_participant r d = record { read = r; next = d }

abbrev pub plain_participant_code : Coded PlainParticipant
plain_participant_code =
    code_by (PlainVersionedConf × Conf) (coded× versioned_conf_code conf.the_row.coded)
    (λ p. (p.read, p.next)) (λ t. plain_participant t.0 t.1) (λ _. refl)

-- what there is of the queue, if one takes part, and then of the node
abbrev pub both_of : {A : Type 0} → Option A → A → List A
both_of None node = node ∷ []
both_of (Some queue) node = queue ∷ node ∷ []

-- what was read of the participants
abbrev pub reads_of : Option PlainVersionedConf → PlainVersionedConf → List PlainVersionedConf
reads_of queue node = both_of queue node

-- the same, among the participants
abbrev pub participants_read : Option PlainParticipant → PlainParticipant → List PlainVersionedConf
participants_read queue node = map (λ p. p.read) (both_of queue node)

-- their new configurations
abbrev pub participants_next : Option PlainParticipant → PlainParticipant → List Conf
participants_next queue node = map (λ p. p.next) (both_of queue node)

-- what was read of the queue: the first of two
abbrev pub queue_read : List PlainVersionedConf → Option PlainVersionedConf
queue_read [] = None
queue_read (node ∷ []) = None
queue_read (queue ∷ node ∷ more) = Some queue

-- what was read of the node: the second of two, or the only one
abbrev pub node_read : List PlainVersionedConf → Option PlainVersionedConf
node_read [] = None
node_read (node ∷ []) = Some node
node_read (queue ∷ node ∷ more) = Some node

-- a proposal: the entry, how long the log was at the look, and what was read of the participants
pub record PlainProposal : Type 0 where
  pub entry : PlainEntry
  pub length : ℕ
  pub reads : List PlainVersionedConf

abbrev pub plain_proposal : PlainEntry → ℕ → List PlainVersionedConf → PlainProposal
plain_proposal e l rs = record { entry = e; length = l; reads = rs }

abbrev pub plain_proposal_code : Coded PlainProposal
plain_proposal_code =
    code_by (PlainEntry × (ℕ × List PlainVersionedConf))
    (coded× entry_code (coded× coded_ℕ (coded_list versioned_conf_code)))
    (λ p. (p.entry, (p.length, p.reads))) (λ t. plain_proposal t.0 t.1.0 t.1.1) (λ _. refl)

-- the law of a proposal: what goes into the log is its entry, the participants of its action were read, and the new
-- configurations are those of their own steps
pub record IsTrueProposal (e again : PlainEntry) (rs : List PlainVersionedConf) (changed : List Conf) : Type 0 where
  pub same : again ≡ e
  pub participants : map read_component rs ≡ participants_of e.action
  pub steps : own_steps e (map Some (read_confs rs)) ≡ Ok changed
