-- What a pass is good for (profile): it never falls, it rises to what it is shown, and what it lets through is not
-- older than what was seen.
use Rattle.std.specs.Prelude.{◌≡◌, ◌≤◌, ℕ, List, map, true}
use Rattle.std.specs.List.{AllByRecursion, list_any}
use Rattle.ioa_actions.specs.ComponentOrder.{same_component}
use Rattle.ioa_actions.specs.declared.component.Component.{Component}
use Rattle.ioa_commits.specs.Versions.{PlainVersionedConf, read_component}
use Rattle.ioa_book.specs.Looks.{PlainSnapshot}
use Rattle.ioa_passes.specs.Passes.{PlainPass, components_seen, seen_of}
use Rattle.ioa_passes.specs.declared.pass.Seen.{Seen}

-- a pass that has risen from another: neither the length nor a version is less, and the components are the same
pub record IsRisen (p q : PlainPass) : Type 0 where
  pub length : p.length ≤ q.length
  pub versions : (k : Component) → seen_of k p.seen ≤ seen_of k q.seen
  pub components : map (λ s. s.component) q.seen ≡ map (λ s. s.component) p.seen

-- a component was seen at this version at least, if it is among those of which something can be seen
abbrev pub IsSeenSince : Component → ℕ → List Seen → Type 0
IsSeenSince k v seen = list_any (same_component k) (components_seen seen) ≡ true → v ≤ seen_of k seen

-- a pass that has seen a log of this length at least, and of all that was read the version that follows from the one
-- read
pub record HasSeen (p : PlainPass) (rs : List PlainVersionedConf) (version : ℕ → ℕ) (n : ℕ) : Type 0 where
  pub log : n ≤ p.length
  pub reads : AllByRecursion (λ r. IsSeenSince (read_component r) (version r.version) p.seen) rs

-- a look that shows nothing older than a pass has seen
pub record IsFresh (p : PlainPass) (s : PlainSnapshot) : Type 0 where
  pub log : p.length ≤ s.length
  pub reads : AllByRecursion (λ r. seen_of (read_component r) p.seen ≤ r.version) s.reads
