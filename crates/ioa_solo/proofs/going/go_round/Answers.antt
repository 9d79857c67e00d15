use Rattle.std.proofs.Common.{◌<◌, ◌∙◌, length, refl, rules}
use Rattle.ioa_solo.specs.Told.{IsToldTo}
use Rattle.ioa_solo.specs.Visits.{number_in, progress_in}
use Rattle.ioa_solo.proofs.Gains.{gained_at, gained_none}
use Rattle.ioa_solo.proofs.GoesOn.{goes_further}
use Rattle.ioa_solo.proofs.Rounds.{if_failed, same_set, under_way_at}
use Rattle.ioa_solo.proofs.ToldRounds.{round_begins, round_cut, round_ends, round_goes_on}
use Rattle.ioa_solo.proofs.SomeVisits.{passing_begins, passing_ends, passing_goes_on, passing_stops}
use Rattle.ioa_solo.proofs.going.go_round.Goals as goal

pub loop-position-init : goal.loop-position-init
loop-position-init g c = record {
  gained = gained_none _ _ _ _ _ refl refl;
  numbers = refl;
  passing = passing_begins _ _;
  told = λ t. round_begins _ _ _ _ t.not_ahead;
}

pub returns-in_err-visit_unless_ended-clause-gained : goal.returns-in_err-visit_unless_ended-clause-gained
returns-in_err-visit_unless_ended-clause-gained g c =
    let within : c.loop-position.position < length c.loop-position.nodes = search rules in
    gained_at number_in (λ n. n.progress.attempts) _ c.loop-position.nodes c.loop-position.position c.index-nodes-position.result c.visit_unless_ended.new.node _ _ _ _ _ _ within c.visit_unless_ended.ensures.same c.loop-position.invariant.gained c.visit_unless_ended.ensures.gained

pub returns-in_err-visit_unless_ended-clause-numbers : goal.returns-in_err-visit_unless_ended-clause-numbers
returns-in_err-visit_unless_ended-clause-numbers g c =
    let within : c.loop-position.position < length c.loop-position.nodes = search rules in
    same_set (λ n. n.number) c.loop-position.nodes c.loop-position.position c.index-nodes-position.result c.visit_unless_ended.new.node within c.visit_unless_ended.ensures.number ∙ c.loop-position.invariant.numbers

pub returns-in_err-visit_unless_ended-clause-stopped : goal.returns-in_err-visit_unless_ended-clause-stopped
returns-in_err-visit_unless_ended-clause-stopped g c =
    let within : c.loop-position.position < length c.loop-position.nodes = search rules in
    if_failed c.from_residual.result (under_way_at progress_in c.loop-position.nodes c.loop-position.position c.visit_unless_ended.new.node within c.in_err-visit_unless_ended.ensures.stopped)

pub returns-in_err-visit_unless_ended-clause-goes : goal.returns-in_err-visit_unless_ended-clause-goes
returns-in_err-visit_unless_ended-clause-goes g c = λ t.
    let far = c.loop-position.invariant.told t in
    goes_further _ _ _ _ _ _ _ _ far.goes (c.visit_unless_ended.ensures.goes (record { told = t.told; not_ahead = far.goes.not_ahead }))

pub loop-position-preserved : goal.loop-position-preserved
loop-position-preserved g c =
    let within : c.loop-position.position < length c.loop-position.nodes = search rules in
    record {
      gained = gained_at number_in (λ n. n.progress.attempts) _ c.loop-position.nodes c.loop-position.position c.index-nodes-position.result c.visit_unless_ended.new.node _ _ _ _ _ _ within c.visit_unless_ended.ensures.same c.loop-position.invariant.gained c.visit_unless_ended.ensures.gained;
      numbers = same_set (λ n. n.number) c.loop-position.nodes c.loop-position.position c.index-nodes-position.result c.visit_unless_ended.new.node within c.visit_unless_ended.ensures.number ∙ c.loop-position.invariant.numbers;
      passing =
          passing_goes_on progress_in c.loop-position.nodes c.loop-position.position c.index-nodes-position.result c.visit_unless_ended.new.node g.B.Board.opened _ within c.loop-position.invariant.passing
          c.in_ok-visit_unless_ended.ensures.passed;
      told = λ t.
          let far = c.loop-position.invariant.told t in
          let now : IsToldTo g.B.Board.told (g.B.Board.tells c.loop-position.board) c.loop-position.hand.pass = record { told = t.told; not_ahead = far.goes.not_ahead } in
          round_goes_on progress_in c.loop-position.nodes c.loop-position.position c.index-nodes-position.result c.visit_unless_ended.new.node _ _ _ _ _ _ _ _ _ within far
          (c.visit_unless_ended.ensures.goes now) (c.in_ok-visit_unless_ended.ensures.visited now);
    }

pub returns-clause-goes : goal.returns-clause-goes
returns-clause-goes g c = λ t. (c.loop-position.invariant.told t).goes

pub returns-clause-round : goal.returns-clause-round
returns-clause-round g c = λ t. round_ends progress_in c.loop-position.nodes c.loop-position.position _ _ _ _ _ _ (search rules) (c.loop-position.invariant.told t)

pub returns-in_err-visit_unless_ended-clause-cut : goal.returns-in_err-visit_unless_ended-clause-cut
returns-in_err-visit_unless_ended-clause-cut g c = λ t.
    let within : c.loop-position.position < length c.loop-position.nodes = search rules in
    if_failed c.from_residual.result
    (round_cut progress_in c.loop-position.nodes c.loop-position.position c.index-nodes-position.result c.visit_unless_ended.new.node
    (g.B.Board.tells c.args.board.now) (g.B.Board.tells c.loop-position.board) (g.B.Board.tells c.visit_unless_ended.new.board) _ _ _ _ within (c.loop-position.invariant.told t)
    (c.in_err-visit_unless_ended.ensures.stays t.told) c.in_err-visit_unless_ended.ensures.began c.in_err-visit_unless_ended.ensures.stopped)

pub returns-clause-passed : goal.returns-clause-passed
returns-clause-passed g c = passing_ends progress_in c.loop-position.nodes c.loop-position.position g.B.Board.opened _ (search rules) c.loop-position.invariant.passing

pub returns-in_err-visit_unless_ended-clause-left : goal.returns-in_err-visit_unless_ended-clause-left
returns-in_err-visit_unless_ended-clause-left g c =
    let within : c.loop-position.position < length c.loop-position.nodes = search rules in
    if_failed c.from_residual.result
    (passing_stops progress_in c.loop-position.nodes c.loop-position.position c.index-nodes-position.result c.visit_unless_ended.new.node g.B.Board.opened _ within c.loop-position.invariant.passing
    c.in_err-visit_unless_ended.ensures.stopped)
