use Rattle.std.proofs.Common.{◌<◌, arith, false, length, rules}
use Rattle.std.proofs.lemmas.Bool.{false≢true}
use Rattle.ioa_tell.specs.Nodes.{progress_in}
use Rattle.ioa_tell.proofs.Visiting.{gone_round, round_whole, turn_behind, visited_first, visited_more}
use Rattle.ioa_tell.proofs.rounds.go_round.Goals as goal

pub loop-position-init : goal.loop-position-init
loop-position-init g c = visited_first g.T.Tells.hears c.args.recorded.now.endings.now progress_in _ _ _ _

pub loop-position-preserved : goal.loop-position-preserved
loop-position-preserved g c =
    let within : c.loop-position.position < length c.loop-position.nodes = search rules in
    visited_more g.T.Tells.hears c.args.recorded.now.endings.now progress_in c.loop-position.nodes c.loop-position.position c.args.recorded.now.length
    c.index-nodes-position.result c.visit_unless_ended.new.node _ _ _ _ _ _ _ _ _ _ within c.requires (c.is_due.ensures c.if-not-is_due.false)
    c.loop-position.invariant c.in_ok-visit_unless_ended.ensures

pub returns-then-not-is_due : goal.returns-then-not-is_due
returns-then-not-is_due g c =
    gone_round g.T.Tells.hears c.args.recorded.now.endings.now false _ _ _ _ _ _ _ _ (turn_behind (length c.loop-position.nodes) c.loop-position.position)
    (λ is. absurd (false≢true is)) c.loop-position.invariant

pub returns : goal.returns
returns g c =
    round_whole g.T.Tells.hears c.args.recorded.now.endings.now progress_in c.loop-position.nodes c.loop-position.position c.is_due-2.result _ _ _ _ _ _ _
    (λ within. omega (arith, within)) c.loop-position.invariant
