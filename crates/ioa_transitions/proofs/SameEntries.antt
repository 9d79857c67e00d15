-- Entries that the test finds the same are equal.
use Rattle.std.proofs.Common.{◌≡◌, refl, ap}
use Rattle.std.specs.Bool.{Decides}
use Rattle.std.proofs.lemmas.Bool.Decides.{Decides-and, Decides-like}
use Rattle.std.proofs.lemmas.Slice.Eq.{slice_eq-Decides}
use Rattle.ioa_values.proofs.Equality.{same_is}
use Rattle.ioa_actions.proofs.SameActions.{same_action_is}
use Rattle.ioa_transitions.specs.Entries.{PlainEntry}
use Rattle.ioa_transitions.specs.SameEntries.{same_entry}

-- the test finds two entries the same if and only if they are equal
pub same_entry_is : (e f : PlainEntry) → Decides (same_entry e f) (e ≡ f)
same_entry_is e f =
    Decides-like _ (λ p i. record { action = p.0 i; chosen = p.1 i })
    (λ q. (ap (λ (s : PlainEntry). s.action) q, ap (λ (s : PlainEntry). s.chosen) q))
    (Decides-and _ _ (same_action_is e.action f.action) (slice_eq-Decides same_is e.chosen f.chosen _ refl))
