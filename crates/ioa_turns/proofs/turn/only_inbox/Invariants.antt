use Rattle.std.proofs.Common.{◌≡◌, ◌++◌}
use Rattle.ioa_terms.specs.Inboxes.{inboxes_of}
use Rattle.ioa_commits.specs.Versions.{read_confs}
use Rattle.ioa_turns.specs.Inboxes.{inboxes_in, one_or_none}
use Rattle.ioa_turns.proofs.turn.only_inbox.Given as goal

-- the inbox so far, and then those of what is left of what was read
abbrev pub invariant-loop-read : goal.invariant-loop-read
invariant-loop-read g l =
    inboxes_of (one_or_none l.found) ++ inboxes_in l.node (read_confs l.read-iterator)
    ≡ inboxes_in l.node (read_confs l.snapshot.reads)
