use Rattle.ioa_solo.proofs.Finishing.{only_memory}
use Rattle.ioa_solo.proofs.running.finish.Goals as goal

pub returns-in-Ok : goal.returns-in-Ok
returns-in-Ok g c = rw (c.in_ok-shares.ensures, c.in_ok-receipts.ensures) at c.in-Ok.ensures.finished

pub memory_of-requires : goal.memory_of-requires
memory_of-requires g c = only_memory _ _ _ _ _ _ _ c.requires (rw (c.in_ok-shares.ensures, c.in_ok-receipts.ensures) at c.in-Err.ensures.unfinished)
