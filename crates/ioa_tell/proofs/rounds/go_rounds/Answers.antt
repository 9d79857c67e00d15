use Rattle.std.proofs.Common.{ap, false, length, refl, sym, ◌∙◌}
use Rattle.ioa_tell.proofs.Visiting.{rounds_further, rounds_gone, rounds_whole, visited_further, visited_none}
use Rattle.ioa_tell.proofs.rounds.go_rounds.Goals as goal

pub loop-round-init : goal.loop-round-init
loop-round-init g c = visited_none g.T.Tells.hears c.args.recorded.now.endings.now _ _ _ _ _ refl

pub go_round-requires : goal.go_round-requires
go_round-requires g c = c.requires ∙ ap length (sym c.loop-round.invariant.tells.schedule)

pub go_round-requires-2 : goal.go_round-requires-2
go_round-requires-2 g c = c.requires ∙ ap length (sym c.loop-round.invariant.tells.schedule)

pub loop-round-preserved : goal.loop-round-preserved
loop-round-preserved g c =
    visited_further g.T.Tells.hears c.args.recorded.now.endings.now _ _ _ _ _ _ _ _ _ _ _ _ c.loop-round.invariant
    (rounds_whole g.T.Tells.hears c.args.recorded.now.endings.now c.in_ok-go_round.field-0 _ _ _ _ _ _ _ _ c.if-not-branch.false c.in_ok-go_round.ensures)

pub returns-then-not-branch : goal.returns-then-not-branch
returns-then-not-branch g c =
    rounds_further g.T.Tells.hears c.args.recorded.now.endings.now false _ _ _ _ _ _ _ _ _ _ _ _ c.loop-round.invariant
    (rounds_gone g.T.Tells.hears c.args.recorded.now.endings.now c.in_ok-go_round.field-0 _ _ _ _ _ _ _ _ c.in_ok-go_round.ensures)

pub returns : goal.returns
returns g c =
    rounds_further g.T.Tells.hears c.args.recorded.now.endings.now false _ _ _ _ _ _ _ _ _ _ _ _ c.loop-round.invariant
    (rounds_gone g.T.Tells.hears c.args.recorded.now.endings.now c.in_ok-go_round-2.field-0 _ _ _ _ _ _ _ _ c.in_ok-go_round-2.ensures)
