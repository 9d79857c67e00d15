use Rattle.ioa_turns.specs.NodeTurns.{progress_of}
use Rattle.ioa_solo.proofs.SettledNodes.{found_settled}
use Rattle.ioa_solo.proofs.SomeVisits.{found_on}
use Rattle.ioa_solo.proofs.visiting.attempt_seen.Goals as goal

pub returns-clause-settled : goal.returns-clause-settled
returns-clause-settled g c =
    found_settled c.attempt_on.result (progress_of c.attempt_on.new.node) c.in-Some.snapshot.now c.args.look.now c.in-Some.ensures c.attempt_on.ensures.settled

pub returns-clause-on_look : goal.returns-clause-on_look
returns-clause-on_look g c =
    found_on c.attempt_on.result g.B.Board.opened c.in-Some.snapshot.now c.args.look.now (progress_of c.args.node.now) (progress_of c.attempt_on.new.node) c.in-Some.ensures c.attempt_on.ensures.on_look
