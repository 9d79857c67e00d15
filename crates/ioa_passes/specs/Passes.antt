-- Passes (profile): what a worker has seen of a book, of which it is never shown anything older.
use Rattle.std.specs.Prelude.{◌≡◌, ℕ, max, nat_lt, if◌then◌else◌, List, [], ◌∷◌, get_or, map, pos, set, refl}
use Rattle.std.specs.Prelude.{Option, Some, None}
use Rattle.std.specs.Coded.{Coded, code_by, coded×, coded_ℕ, coded_list}
use Rattle.std.specs.Option.{option_or}
use Rattle.ioa_actions.specs.ComponentOrder.{same_component}
use Rattle.ioa_actions.specs.contracts.component.Component as component
use Rattle.ioa_actions.specs.declared.component.Component.{Component}
use Rattle.ioa_actions.specs.declared.component.Component.TheVariants as variant
use Rattle.ioa_compose.specs.Composition.{component_names}
use Rattle.ioa_compose.specs.declared.configuration.Conf.{Conf}
use Rattle.ioa_commits.specs.Proposals.{both_of}
use Rattle.ioa_commits.specs.Slots.{next_version}
use Rattle.ioa_commits.specs.Versions.{PlainVersionedConf, read_component}
use Rattle.ioa_commits.specs.declared.outcome.CommitRefusal.{CommitRefusal}
use Rattle.ioa_commits.specs.declared.outcome.CommitRefusal.TheVariants as refusal
use Rattle.ioa_book.specs.Looks.{PlainSnapshot}
use Rattle.ioa_passes.specs.declared.outcome.Aged.{Aged}
use Rattle.ioa_passes.specs.declared.outcome.Aged.TheVariants as aged
use Rattle.ioa_passes.specs.declared.outcome.Older.{Older}
use Rattle.ioa_passes.specs.declared.pass.Seen.{Seen}

-- a component seen at a version
abbrev pub seen_at : Component → ℕ → Seen
seen_at k v = record { component = k; version = v }

abbrev pub seen_code : Coded Seen
seen_code =
    code_by (Component × ℕ) (coded× component.the_row.coded coded_ℕ)
    (λ s. (s.component, s.version)) (λ t. seen_at t.0 t.1) (λ _. refl)

-- a pass: what was seen of each component, and how long the log was
pub record PlainPass : Type 0 where
  pub seen : List Seen
  pub length : ℕ

abbrev pub plain_pass : List Seen → ℕ → PlainPass
plain_pass seen n = record { seen = seen; length = n }

abbrev pub plain_pass_code : Coded PlainPass
plain_pass_code =
    code_by (List Seen × ℕ) (coded× (coded_list seen_code) coded_ℕ)
    (λ p. (p.seen, p.length)) (λ t. plain_pass t.0 t.1) (λ _. refl)

-- a component that was not seen yet
abbrev pub unseen : Component → Seen
unseen k = seen_at k 0

-- the pass of a worker that has seen nothing of a book with these components
abbrev pub first_pass : List Conf → PlainPass
first_pass start = plain_pass (map unseen (component_names start)) 0

-- the version at which a component was seen: 0, if it is not in the pass
abbrev pub seen_of : Component → List Seen → ℕ
seen_of k [] = 0
seen_of k (s ∷ more) = if same_component k s.component then s.version else seen_of k more

-- the same component, once it was seen at another version: no version falls
abbrev pub risen : ℕ → Seen → Seen
risen v s = seen_at s.component (max s.version v)

-- what was seen, once a component was seen at a version; one that is not in the pass is not added
abbrev pub raise_seen : Component → ℕ → List Seen → List Seen
raise_seen k v [] = []
raise_seen k v (s ∷ more) = if same_component k s.component then risen v s ∷ more else s ∷ raise_seen k v more

-- what was seen in a place (form)
abbrev pub seen_in : List Seen → ℕ → Seen
seen_in seen i = get_or seen i (unseen (variant.Node (pos 0)))

-- what was seen, once the component in a place was seen at a version (form)
abbrev pub raise_place : ℕ → ℕ → List Seen → List Seen
raise_place v i seen = set seen i (risen v (seen_in seen i))

-- the components of a pass
abbrev pub components_seen : List Seen → List Component
components_seen seen = map (λ s. s.component) seen

-- what was read was seen
abbrev pub raise_read : PlainVersionedConf → List Seen → List Seen
raise_read r seen = raise_seen (read_component r) r.version seen

-- and what was read and has taken a step since
abbrev pub raise_next : PlainVersionedConf → List Seen → List Seen
raise_next r seen = raise_seen (read_component r) (next_version r.version) seen

-- the same of several, one after another
abbrev pub raise_all : List PlainVersionedConf → List Seen → List Seen
raise_all [] seen = seen
raise_all (r ∷ more) seen = raise_all more (raise_read r seen)

abbrev pub raise_all_next : List PlainVersionedConf → List Seen → List Seen
raise_all_next [] seen = seen
raise_all_next (r ∷ more) seen = raise_all_next more (raise_next r seen)

-- a pass after a look
abbrev pub risen_by_look : PlainSnapshot → PlainPass → PlainPass
risen_by_look s p = plain_pass (raise_all s.reads p.seen) (max p.length s.length)

-- a pass after a commit of what was read so, which leaves a log of this length
abbrev pub risen_by_commit : List PlainVersionedConf → ℕ → PlainPass → PlainPass
risen_by_commit rs n p = plain_pass (raise_all_next rs p.seen) (max p.length n)

-- a pass rises to the version that a stale proposal met
abbrev pub risen_by_refusal : CommitRefusal → PlainPass → PlainPass
risen_by_refusal (refusal.Unknown k) p = p
risen_by_refusal (refusal.Stale k read held) p = plain_pass (raise_seen k held p.seen) p.length
risen_by_refusal (refusal.Differs k) p = p
risen_by_refusal refusal.Full p = p

-- something that is older than it was seen
abbrev pub aged_by : Aged → ℕ → ℕ → Older
aged_by a seen held = record { of = a; seen = seen; held = held }

-- what was read of a component, if that is older than it was seen
abbrev pub older_read : List Seen → PlainVersionedConf → Option Older
older_read seen r =
    if nat_lt r.version (seen_of (read_component r) seen)
    then Some (aged_by (aged.Component (read_component r)) (seen_of (read_component r) seen) r.version) else None

-- the first such component
abbrev pub first_older : List Seen → List PlainVersionedConf → Option Older
first_older seen [] = None
first_older seen (r ∷ more) = option_or (older_read seen r) (first_older seen more)

-- a log of this length, if that is less than was seen
abbrev pub older_length : ℕ → ℕ → Option Older
older_length seen held = if nat_lt held seen then Some (aged_by aged.Length seen held) else None

-- what of a look is older than it was seen: the first component, or else the length
abbrev pub older : PlainPass → PlainSnapshot → Option Older
older p s = option_or (first_older p.seen s.reads) (older_length p.length s.length)

-- what was read is at the version at which it was seen: so it is not older, and raises nothing
pub record IsSeen (seen : List Seen) (r : PlainVersionedConf) : Type 0 where
  pub fresh : older_read seen r ≡ None
  pub same : raise_read r seen ≡ seen

-- the same of several
pub record AreSeen (seen : List Seen) (rs : List PlainVersionedConf) : Type 0 where
  pub fresh : first_older seen rs ≡ None
  pub same : raise_all rs seen ≡ seen
