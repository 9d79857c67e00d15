-- When a commit is refused (Lynch 8.2; profile): exactly if there is a conflict, or no room.
use Rattle.std.specs.Prelude.{◌≡◌, ◌+◌, ◌<◌, ◌≤◌, ◌↔◌, ℕ, true, false, List, drop, length, take}
use Rattle.std.specs.List.{All}
use Rattle.ioa_actions.specs.declared.action.Action.{Action}
use Rattle.ioa_actions.specs.declared.component.Component.{Component}
use Rattle.ioa_transitions.specs.Entries.{PlainEntry}
use Rattle.ioa_compose.specs.Executions.{projection_of}
use Rattle.ioa_compose.specs.Participants.{takes_part}
use Rattle.ioa_commits.specs.Books.{PlainBook}
use Rattle.ioa_commits.specs.Versions.{version}
use Rattle.ioa_commits.specs.declared.outcome.CommitRefusal.{CommitRefusal}
use Rattle.ioa_commits.specs.declared.outcome.CommitRefusal.TheVariants.{Stale}
use Rattle.ioa_core.specs.Cores.{PlainCore}
use Rattle.ioa_core.specs.declared.reply.Reply.{Reply}
use Rattle.ioa_core.specs.declared.reply.Reply.TheVariants as reply

-- no component takes part both in an action and in one of these entries (Lynch 8.2)
abbrev pub IsApartFrom : List PlainEntry → Action → Type 0
IsApartFrom entries a =
    All (λ e. (k : Component) → takes_part k a ≡ true → takes_part k e.action ≡ false) entries

-- a commit that is stale: a component of its action has taken part in more actions since the look, and so many more
pub record IsConflict (log : List PlainEntry) (n : ℕ) (a : Action) (r : Reply) : Type 0 where
  pub component : Component
  pub read : ℕ
  pub held : ℕ
  pub told : r ≡ reply.Stale component read held
  pub own : takes_part component a ≡ true
  pub since : held ≡ read + length (projection_of component (drop n log))
  pub moved : read < held

-- what a commit comes to of an entry that was proposed when n entries were recorded: it is made exactly if no entry
-- since then has a component in common with it and there is room, it is full if there is none and no room, and else it
-- is stale
pub record IsCommitReply (c : PlainCore) (e : PlainEntry) (n : ℕ) (r : Reply) : Type 0 where
  pub committed :
      (r ≡ reply.Committed (length c.log)) ↔ (IsApartFrom (drop n c.log) e.action × (length c.log < c.limit))
  pub full : (r ≡ reply.Full) ↔ (IsApartFrom (drop n c.log) e.action × (c.limit ≤ length c.log))
  pub stale : (IsApartFrom (drop n c.log) e.action → ⊥) ↔ IsConflict c.log n e.action r

-- cores that differ in their counts alone
pub record AreAlike (c d : PlainCore) : Type 0 where
  pub start : c.start ≡ d.start
  pub log : c.log ≡ d.log
  pub limit : c.limit ≡ d.limit
  pub hands : c.hands ≡ d.hands

-- a participant that has taken part since n entries were recorded, as a refusal
abbrev pub stale_at : PlainBook → ℕ → Component → CommitRefusal
stale_at b n k = Stale k (version k (take n b.log)) (version k b.log)
