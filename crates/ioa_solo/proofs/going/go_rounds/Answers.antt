use Rattle.std.proofs.Common.{◌+◌, ◌<◌, ◌≤◌, map, refl, sym, ◌∙◌, arith}
use Rattle.ioa_solo.specs.Told.{IsToldTo}
use Rattle.ioa_solo.specs.Visits.{progress_in}
use Rattle.ioa_solo.proofs.Gains.{gained_more, gained_none}
use Rattle.ioa_solo.proofs.GoesOn.{goes_further}
use Rattle.ioa_solo.proofs.Rounds.{if_failed}
use Rattle.ioa_solo.proofs.ToldRounds.{last_cut, last_round, rounds_begin, rounds_cut, rounds_enough, rounds_go_on}
use Rattle.ioa_solo.proofs.SomeVisits.{last_left, last_over, round_more, rounds_left, rounds_none, rounds_over}
use Rattle.ioa_solo.proofs.going.go_rounds.Goals as goal

pub loop-round-init : goal.loop-round-init
loop-round-init g c = record {
  gained = gained_none _ _ _ _ _ refl refl;
  numbers = refl;
  turns = rounds_none _ _;
  told = λ t. rounds_begin _ _ _ _ t.not_ahead;
}

pub returns-in_err-go_round-clause-gained : goal.returns-in_err-go_round-clause-gained
returns-in_err-go_round-clause-gained g c = gained_more _ _ _ _ _ _ _ _ _ c.loop-round.invariant.gained c.go_round.ensures.gained

pub returns-in_err-go_round-clause-goes : goal.returns-in_err-go_round-clause-goes
returns-in_err-go_round-clause-goes g c = λ t.
    let far = c.loop-round.invariant.told t in
    goes_further _ _ _ _ _ _ _ _ far.goes (c.go_round.ensures.goes (record { told = t.told; not_ahead = far.goes.not_ahead }))

pub returns-then-have_all_ended-clause-gained : goal.returns-then-have_all_ended-clause-gained
returns-then-have_all_ended-clause-gained g c = gained_more _ _ _ _ _ _ _ _ _ c.loop-round.invariant.gained c.go_round.ensures.gained

pub returns-then-have_all_ended-clause-goes : goal.returns-then-have_all_ended-clause-goes
returns-then-have_all_ended-clause-goes g c = λ t.
    let far = c.loop-round.invariant.told t in
    goes_further _ _ _ _ _ _ _ _ far.goes (c.go_round.ensures.goes (record { told = t.told; not_ahead = far.goes.not_ahead }))

pub returns-then-have_all_ended-clause-rounds : goal.returns-then-have_all_ended-clause-rounds
returns-then-have_all_ended-clause-rounds g c = λ t.
    let far = c.loop-round.invariant.told t in
    let now : IsToldTo g.B.Board.told (g.B.Board.tells c.loop-round.board) c.loop-round.hand.pass = record { told = t.told; not_ahead = far.goes.not_ahead } in
    rounds_enough _ _ _ _ _ _ _ _ c.loop-round._round (c.args.attempts + 1) _ _ _ (omega (arith, c.loop-round-test.true)) far (c.go_round.ensures.goes now) (c.in_ok-go_round.ensures.round now)
    (sym c.have_all_ended.ensures ∙ c.if-have_all_ended.true)

pub loop-round-preserved : goal.loop-round-preserved
loop-round-preserved g c = record {
  gained = gained_more _ _ _ _ _ _ _ _ _ c.loop-round.invariant.gained c.go_round.ensures.gained;
  numbers = c.go_round.ensures.numbers ∙ c.loop-round.invariant.numbers;
  turns = round_more g.B.Board.opened c.loop-round._round _ _ _ _ refl c.loop-round.invariant.turns c.in_ok-go_round.ensures.passed;
  told = λ t.
      let far = c.loop-round.invariant.told t in
      let now : IsToldTo g.B.Board.told (g.B.Board.tells c.loop-round.board) c.loop-round.hand.pass = record { told = t.told; not_ahead = far.goes.not_ahead } in
      rounds_go_on _ _ _ _ _ _ _ _ c.loop-round._round (c.args.attempts + 1) _ _ _ (omega (arith, c.loop-round-test.true)) far (c.go_round.ensures.goes now) (c.in_ok-go_round.ensures.round now);
}

pub returns-clause-gained : goal.returns-clause-gained
returns-clause-gained g c = gained_more _ _ _ _ _ _ _ _ _ c.loop-round.invariant.gained c.go_round-2.ensures.gained

pub returns-clause-goes : goal.returns-clause-goes
returns-clause-goes g c = λ t.
    let far = c.loop-round.invariant.told t in
    goes_further _ _ _ _ _ _ _ _ far.goes (c.go_round-2.ensures.goes (record { told = t.told; not_ahead = far.goes.not_ahead }))

pub returns-clause-rounds : goal.returns-clause-rounds
returns-clause-rounds g c = λ t.
    let far = c.loop-round.invariant.told t in
    let now : IsToldTo g.B.Board.told (g.B.Board.tells c.loop-round.board) c.loop-round.hand.pass = record { told = t.told; not_ahead = far.goes.not_ahead } in
    let within : c.loop-round._round < c.args.attempts + 1 = omega (arith, c.loop-round.auto._round-end) in
    let past : c.args.attempts + 1 ≤ c.loop-round._round + 1 = omega (arith, c.loop-round-test.false) in
    last_round c.go_round-2.result (g.B.Board.tells c.args.board.now) (g.B.Board.tells c.loop-round.board) (g.B.Board.tells c.go_round-2.new.board) _ _ _ _ _
    c.loop-round._round (c.args.attempts + 1) (map progress_in c.args.nodes.now) (map progress_in c.loop-round.nodes) (map progress_in c.go_round-2.new.nodes)
    within past far (c.go_round-2.ensures.goes now) (c.go_round-2.ensures.round now)

pub returns-in_err-go_round-clause-cut : goal.returns-in_err-go_round-clause-cut
returns-in_err-go_round-clause-cut g c = λ t.
    let far = c.loop-round.invariant.told t in
    let now : IsToldTo g.B.Board.told (g.B.Board.tells c.loop-round.board) c.loop-round.hand.pass = record { told = t.told; not_ahead = far.goes.not_ahead } in
    if_failed c.from_residual.result
    (rounds_cut (g.B.Board.tells c.args.board.now) (g.B.Board.tells c.loop-round.board) _ _ _ c.loop-round._round (c.args.attempts + 1) _ _ _ _ (omega (arith, c.loop-round-test.true)) far (c.in_err-go_round.ensures.cut now))

pub returns-clause-cut : goal.returns-clause-cut
returns-clause-cut g c = λ t.
    let far = c.loop-round.invariant.told t in
    let now : IsToldTo g.B.Board.told (g.B.Board.tells c.loop-round.board) c.loop-round.hand.pass = record { told = t.told; not_ahead = far.goes.not_ahead } in
    let within : c.loop-round._round < c.args.attempts + 1 = omega (arith, c.loop-round.auto._round-end) in
    last_cut c.go_round-2.result (g.B.Board.tells c.args.board.now) (g.B.Board.tells c.loop-round.board) _ _ _ c.loop-round._round (c.args.attempts + 1) _ _ _ _ within far (c.go_round-2.ensures.cut now)

pub returns-in_err-go_round-clause-left : goal.returns-in_err-go_round-clause-left
returns-in_err-go_round-clause-left g c =
    if_failed c.from_residual.result (rounds_left g.B.Board.opened c.loop-round._round _ _ _ c.loop-round.invariant.turns c.in_err-go_round.ensures.left)

pub returns-then-have_all_ended-clause-over : goal.returns-then-have_all_ended-clause-over
returns-then-have_all_ended-clause-over g c = λ few.
    rounds_over g.B.Board.opened (c.loop-round._round + 1) _ _ (round_more g.B.Board.opened c.loop-round._round (c.loop-round._round + 1) _ _ _ refl c.loop-round.invariant.turns c.in_ok-go_round.ensures.passed)
    (sym c.have_all_ended.ensures ∙ c.if-have_all_ended.true)

pub returns-clause-over : goal.returns-clause-over
returns-clause-over g c = λ few.
    let within : c.loop-round._round < c.args.attempts + 1 = omega (arith, c.loop-round.auto._round-end) in
    let past : c.args.attempts + 1 ≤ c.loop-round._round + 1 = omega (arith, c.loop-round-test.false) in
    last_over g.B.Board.opened c.go_round-2.result c.args.attempts c.loop-round._round _ _ _ (omega (arith, within, past)) few c.loop-round.invariant.turns c.go_round-2.ensures.passed

pub returns-clause-left : goal.returns-clause-left
returns-clause-left g c = last_left g.B.Board.opened c.go_round-2.result c.loop-round._round _ _ _ c.loop-round.invariant.turns c.go_round-2.ensures.left
