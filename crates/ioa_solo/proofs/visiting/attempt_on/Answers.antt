use Rattle.std.proofs.Common.{refl, ap, arith}
use Rattle.ioa_book.specs.Looks.{IsLookAt}
use Rattle.ioa_system.specs.Parts.{Parts}
use Rattle.ioa_turns.specs.NodeTurns.{arguments_in, end_of, progress_of}
use Rattle.ioa_solo.proofs.Gains.{gained_at_within}
use Rattle.ioa_solo.proofs.GoesOn.{goes_nowhere}
use Rattle.ioa_solo.proofs.Rounds.{if_failed}
use Rattle.ioa_solo.proofs.SettledNodes.{never_settled}
use Rattle.ioa_solo.proofs.ToldTurns.{turn_came, turn_failed}
use Rattle.ioa_solo.proofs.SomeVisits.{turned_on, unturned_on}
use Rattle.ioa_solo.proofs.visiting.attempt_on.Goals as goal

pub returns-in-Ok-clause-gained : goal.returns-in-Ok-clause-gained
returns-in-Ok-clause-gained g c =
    gained_at_within _ _ 1 0 1 0 _ _ _ _ (omega arith) (ap (λ (p : Parts). p.node) c.turn_on.ensures.same_program) c.after_turn.ensures.gained

pub returns-in-Ok-clause-goes : goal.returns-in-Ok-clause-goes
returns-in-Ok-clause-goes g c = λ t fresh.
    let still : IsLookAt (g.B.Board.tells c.args.board.now) (progress_of c.turn_on.new.node).program.node c.args.snapshot.now = rw c.turn_on.ensures.same_program fresh in
    c.after_turn.ensures.goes t still

pub returns-in-Ok-clause-attempted : goal.returns-in-Ok-clause-attempted
returns-in-Ok-clause-attempted g c = λ t fresh.
    let still : IsLookAt (g.B.Board.tells c.args.board.now) (progress_of c.turn_on.new.node).program.node c.args.snapshot.now = rw c.turn_on.ensures.same_program fresh in
    turn_came c.after_turn.result (g.B.Board.tells c.args.board.now) (g.B.Board.tells c.after_turn.new.board) (progress_of c.args.node.now) (progress_of c.turn_on.new.node) (progress_of c.after_turn.new.node)
    (end_of (arguments_in c.turn_on.new.node) c.in-Ok.turn) (c.in-Ok.ensures.told (g.B.Board.tells c.args.board.now) fresh) (c.after_turn.ensures.came t still)

pub returns-in-Err-clause-goes : goal.returns-in-Err-clause-goes
returns-in-Err-clause-goes g c = λ t fresh. goes_nowhere _ _ _ _ _ refl refl t.not_ahead

pub returns-in-Err-clause-attempted : goal.returns-in-Err-clause-attempted
returns-in-Err-clause-attempted g c = λ t fresh.
    turn_failed c.end_attempt.result (g.B.Board.tells c.args.board.now) (g.B.Board.tells c.args.board.now) (progress_of c.args.node.now) (progress_of c.turn_on.new.node) (progress_of c.end_attempt.new.node)
    c.in-Err.fault (c.in-Err.ensures.told (g.B.Board.tells c.args.board.now) fresh) c.in-Err.ensures.unchanged c.end_attempt.ensures.ended

pub returns-in-Err-clause-stays : goal.returns-in-Err-clause-stays
returns-in-Err-clause-stays g c = λ told. if_failed c.end_attempt.result refl

pub returns-in-Err-clause-settled : goal.returns-in-Err-clause-settled
returns-in-Err-clause-settled g c = never_settled _ c.end_attempt.result c.end_attempt.ensures.unsettled

pub returns-in-Ok-clause-on_look : goal.returns-in-Ok-clause-on_look
returns-in-Ok-clause-on_look g c =
    turned_on g.B.Board.opened c.args.snapshot.now (progress_of c.args.node.now) (progress_of c.turn_on.new.node) (progress_of c.after_turn.new.node)
    c.after_turn.result (end_of (arguments_in c.turn_on.new.node) c.in-Ok.turn) c.in-Ok.ensures.seen c.after_turn.ensures.ended

pub returns-in-Err-clause-on_look : goal.returns-in-Err-clause-on_look
returns-in-Err-clause-on_look g c =
    unturned_on g.B.Board.opened c.args.snapshot.now (progress_of c.args.node.now) (progress_of c.turn_on.new.node) (progress_of c.end_attempt.new.node)
    c.end_attempt.result c.in-Err.fault c.in-Err.ensures.seen c.in-Err.ensures.unchanged c.end_attempt.ensures.ended
