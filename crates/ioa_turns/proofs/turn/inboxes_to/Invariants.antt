use Rattle.std.proofs.Common.{◌≡◌, ◌++◌}
use Rattle.ioa_terms.specs.Inboxes.{inboxes_of}
use Rattle.ioa_commits.specs.Versions.{read_confs}
use Rattle.ioa_turns.specs.Inboxes.{inboxes_in}
use Rattle.ioa_turns.proofs.turn.inboxes_to.Given as goal

-- the inboxes so far, and then those of what is left of what was read
abbrev pub invariant-loop-read : goal.invariant-loop-read
invariant-loop-read g l =
    inboxes_of l.inboxes.items ++ inboxes_in l.node (read_confs l.read-iterator)
    ≡ inboxes_in l.node (read_confs l.snapshot.reads)
