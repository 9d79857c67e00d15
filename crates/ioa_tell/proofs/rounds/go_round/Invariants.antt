use Rattle.std.proofs.Common.{◌++◌, map}
use Rattle.ioa_tell.specs.Nodes.{progress_in}
use Rattle.ioa_tell.specs.Told.{TellsSuch}
use Rattle.ioa_tell.specs.Visits.{AreVisited}
use Rattle.ioa_tell.proofs.Visiting.{round_of}
use Rattle.ioa_tell.proofs.rounds.go_round.Given as goal

-- what was told so far goes along the schedule, and is that of visits of the nodes gone by
abbrev pub invariant-loop-position : goal.invariant-loop-position
invariant-loop-position g l =
    TellsSuch g.T.Tells.hears l.initial.book l.book l.initial.left l.left l.initial.out l.out
    (AreVisited l.initial.book.start (l.initial.book.log ++ l.initial.left) l.recorded.endings.now l.initial.book.log (record { turn = 0; nodes = map progress_in l.initial.nodes }) (round_of progress_in l.nodes l.position))
