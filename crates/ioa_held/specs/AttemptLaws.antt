-- What attempts under a pass tell (profile): what a receipt is of, and why there is none.
use Rattle.std.specs.Prelude.{◌≡◌, ℕ, ◌+◌, ◌<◌, ◌≤◌, true}
use Rattle.std.specs.List.{list_any}
use Rattle.ioa_actions.specs.ComponentOrder.{same_component}
use Rattle.ioa_actions.specs.declared.component.Component.{Component}
use Rattle.ioa_transitions.specs.Entries.{PlainEntry}
use Rattle.ioa_commits.specs.Proposals.{PlainProposal}
use Rattle.ioa_passes.specs.Passes.{PlainPass, seen_of}
use Rattle.ioa_passes.specs.declared.outcome.Aged.{Aged}
use Rattle.ioa_passes.specs.declared.outcome.Aged.TheVariants as aged
use Rattle.ioa_passes.specs.declared.outcome.Older.{Older}

-- a commit by its receipt: it is of the proposal's entry, behind all that the pass had seen, which has seen it then
pub record IsReceiptOf (p : PlainPass) (x : PlainProposal) (index : ℕ) (e : PlainEntry) (q : PlainPass) : Type 0 where
  pub behind : p.length ≤ index
  pub entry : e ≡ x.entry
  pub seen : index + 1 ≤ q.length

-- what a pass has seen: of a component, or of the log
abbrev pub seen_in : PlainPass → Aged → ℕ
seen_in p (aged.Component k) = seen_of k p.seen
seen_in p aged.Length = p.length

-- something that is older than a pass has seen it
pub record IsOlderThan (p : PlainPass) (o : Older) : Type 0 where
  pub seen_was : o.seen ≡ seen_in p o.of
  pub less : o.held < o.seen

-- a stale proposal: the version that it read is not the one that is held, the proposal is handed back, and the pass has
-- seen the version that is held, if it has the component
pub record IsStaleBy (p : PlainPass) (x : PlainProposal) (k : Component) (read held : ℕ) (back : PlainProposal)
    (q : PlainPass) : Type 0 where
  pub moved : read ≡ held → ⊥
  pub handed_back : back ≡ x
  pub seen : list_any (λ s. same_component k s.component) p.seen ≡ true → held ≤ seen_of k q.seen
