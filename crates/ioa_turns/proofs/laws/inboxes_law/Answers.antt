use Rattle.ioa_turns.proofs.SeenInboxes.{inbox_waits, no_inbox}
use Rattle.ioa_turns.proofs.laws.inboxes_law.Goals as goal

pub returns : goal.returns
returns c = record { waiting = inbox_waits; no_channel = no_inbox }
