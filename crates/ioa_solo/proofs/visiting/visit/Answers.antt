use Rattle.ioa_turns.specs.NodeTurns.{progress_of}
use Rattle.ioa_solo.proofs.SettledNodes.{fewer_settled}
use Rattle.ioa_solo.proofs.visiting.visit.Goals as goal

pub attempt-requires-clause-settled : goal.attempt-requires-clause-settled
attempt-requires-clause-settled g c = λ e. fewer_settled (progress_of c.args.node.now) _ c.args.look.now (c.requires.settled e)
