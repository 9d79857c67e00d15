use Rattle.ioa_turns.specs.NodeTurns.{progress_of}
use Rattle.ioa_solo.proofs.SettledNodes.{settled_there}
use Rattle.ioa_solo.proofs.SomeVisits.{settled_on}
use Rattle.ioa_solo.proofs.visiting.attempt_unless_settled.Goals as goal

pub returns-then-is_settled-clause-attempted : goal.returns-then-is_settled-clause-attempted
returns-then-is_settled-clause-attempted g c = λ t seen. settled_there (g.B.Board.tells c.args.board.now) (progress_of c.args.node.now) c.args.look.now seen (c.requires.settled c.if-is_settled.true)

pub returns-then-is_settled-clause-on_look : goal.returns-then-is_settled-clause-on_look
returns-then-is_settled-clause-on_look g c = settled_on g.B.Board.opened (progress_of c.args.node.now) c.args.look.now (c.requires.settled c.if-is_settled.true)
