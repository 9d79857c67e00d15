use Rattle.ioa_run_laws.proofs.BlockTurns.{block_starts, block_turns, block_passes}
use Rattle.ioa_run_laws.proofs.RunBlocks.{blocks_kept}
use Rattle.ioa_run_laws.proofs.SeenInboxes.{seen_fit}
use Rattle.ioa_run_laws.proofs.laws.block_law.Goals as goal

pub returns : goal.returns
returns c = record {
  start = block_starts;
  inboxes = λ x s p cs h present shaped. seen_fit x s h p present cs shaped;
  turn = block_turns;
  passed = block_passes;
  rounds = blocks_kept;
}
