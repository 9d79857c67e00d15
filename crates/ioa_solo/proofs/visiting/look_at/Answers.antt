use Rattle.std.proofs.Common.{rules}
use Rattle.ioa_boards.specs.Places.{Puts, PutsSome}
use Rattle.ioa_solo.proofs.Placed.{put_fault, put_own, put_seen, put_there, put_upto}
use Rattle.ioa_solo.proofs.visiting.look_at.Goals as goal

pub returns-clause-seen : goal.returns-clause-seen
returns-clause-seen g c = put_there g.B.Board.opened _ _ _ _ c.look.result c.look.ensures.some

pub returns-clause-own : goal.returns-clause-own
returns-clause-own g c =
    let as_put = c.look.ensures.some in
    let put : PutsSome g.B.Board.opened c.args.pass.now c.args.node c.look.new.place c.look.new.pass c.look.result = search rules in
    put_own g.B.Board.opened c.args.pass.now c.args.node c.look.new.place c.look.new.pass c.look.result put

pub returns-clause-told : goal.returns-clause-told
returns-clause-told g c = λ t.
    let b = g.B.Board.tells c.args.board.now in
    let as_told = c.look.ensures.told t.told in
    let put : Puts b c.args.pass.now c.args.node c.look.new.place c.look.result = search rules in
    put_seen b c.args.pass.now c.args.node c.look.new.place c.look.result put

pub returns-clause-fault : goal.returns-clause-fault
returns-clause-fault g c = λ t.
    let b = g.B.Board.tells c.args.board.now in
    let as_told = c.look.ensures.told t.told in
    let put : Puts b c.args.pass.now c.args.node c.look.new.place c.look.result = search rules in
    put_fault b c.args.pass.now c.args.node c.look.new.place c.look.result t.not_ahead put

pub returns-clause-not_ahead : goal.returns-clause-not_ahead
returns-clause-not_ahead g c = λ t.
    let b = g.B.Board.tells c.args.board.now in
    put_upto g.B.Board.opened b c.args.pass.now c.look.new.pass _ c.look.new.place c.look.result t.not_ahead (c.look.ensures.told t.told) c.look.ensures.some
