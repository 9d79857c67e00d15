use Rattle.std.proofs.Common.{◌≡◌, ◌≤◌, drop, length}
use Rattle.ioa_terms.specs.Inboxes.{inbox_entries, inboxes_of}
use Rattle.ioa_terms.proofs.evaluation.entries_of.Given as goal

-- the entries so far are those of the last inboxes
abbrev pub invariant-loop-left : goal.invariant-loop-left
invariant-loop-left l = record {
  entries : l.entries ≡ inbox_entries (inboxes_of (drop l.left l.inboxes));
  within : l.left ≤ length l.inboxes;
}

abbrev pub decreases-loop-left : goal.decreases-loop-left
decreases-loop-left l = l.left
