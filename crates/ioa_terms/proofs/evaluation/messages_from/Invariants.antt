use Rattle.std.proofs.Common.{◌≡◌, drop}
use Rattle.ioa_values.specs.Collections.{value_at}
use Rattle.ioa_terms.specs.Inboxes.{inbox_entries, inboxes_of}
use Rattle.ioa_terms.proofs.evaluation.messages_from.Given as goal

-- the map of the inboxes that are left has the same at the key as the map of all
abbrev pub invariant-loop-inbox : goal.invariant-loop-inbox
invariant-loop-inbox l =
    value_at l.sender (inbox_entries (inboxes_of (drop l.inbox-index l.inboxes))) ≡ value_at l.sender (inbox_entries (inboxes_of l.inboxes))
