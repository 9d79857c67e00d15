use Rattle.ioa_compose.proofs.Replays.{stopped-no_replay}
use Rattle.ioa_compose.proofs.replaying.replay_from.Goals as goal

pub returns-clause-no_replay : goal.returns-clause-no_replay
returns-clause-no_replay c = stopped-no_replay _ c.args.start.items c.args.entries.now c.steps.ensures.stopped
