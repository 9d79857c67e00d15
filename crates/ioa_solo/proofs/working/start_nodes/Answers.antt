use Rattle.std.proofs.Common.{◌≡◌, ◌≤◌, ◌<◌, ◌*◌, ◌∙◌, ℤ, List, get_or, length, map, take, pos, sym, subst, rules, to_z, of_z, w64}
use Rattle.std.specs.Prelude.{filter}
use Rattle.std.proofs.lemmas.List.{take_all, take_more}
use Rattle.ioa_commits.specs.Books.{PlainBook, states_held}
use Rattle.ioa_sharing.specs.Named.{shared_of_value}
use Rattle.ioa_solo.specs.Told.{IsToldTo, IsUpTo}
use Rattle.ioa_solo.specs.Visits.{attempts_left, visited_of}
use Rattle.ioa_solo.specs.Works.{met_first, program_of}
use Rattle.ioa_solo.proofs.Gains.{left_more}
use Rattle.ioa_solo.proofs.Works.{met_all, more_met}
use Rattle.ioa_solo.proofs.working.start_nodes.Goals as goal

pub loop-node-preserved : goal.loop-node-preserved
loop-node-preserved g c =
    let i = c.loop-node.node-index in
    let nodes = c.args.nodes.now in
    let programs = (shared_of_value c.args.system.now).programs in
    let within : i < length nodes = search rules in
    let item : ℤ = get_or nodes i (pos 0) in
    let plain : to_z w64 (of_z w64 item) ≡ item = search rules in
    record {
      few = λ those.
          subst (λ (l : List ℤ). attempts_left c.start_node.new.visited.items those ≤ c.args.attempts * length (filter those l)) (sym (take_more nodes i (pos 0) within))
          (left_more those c.args.attempts (attempts_left c.loop-node.visited.items those) (attempts_left c.start_node.new.visited.items those) (take i nodes) item
          (c.loop-node.invariant.few those) (rw plain at (c.in_ok-start_node.ensures.few those)));
      begun = c.in_ok-start_node.ensures.begun c.loop-node.invariant.begun;
      share = c.start_node.ensures.share ∙ c.loop-node.invariant.share;
      receipts = c.start_node.ensures.receipts ∙ c.loop-node.invariant.receipts;
      same = λ e. c.start_node.ensures.same e ∙ c.loop-node.invariant.same e;
      told = λ t.
          let b = g.B.Board.tells c.args.board.now in
          let before = c.loop-node.invariant.told t in
          let same = c.loop-node.invariant.same t.told in
          let now : IsToldTo g.B.Board.told (g.B.Board.tells c.loop-node.board) c.loop-node.hand.pass =
          record { told = t.told; not_ahead = subst (λ (x : PlainBook). IsUpTo x c.loop-node.hand.pass) (sym same) before.not_ahead } in
          record {
            not_ahead = subst (λ (x : PlainBook). IsUpTo x c.start_node.new.hand.pass) same (c.start_node.ensures.not_ahead now);
            met =
                more_met (λ k. met_first c.args.attempts (states_held b) (program_of k programs)) nodes i (pos 0) (map visited_of c.loop-node.visited.items) (map visited_of c.start_node.new.visited.items) within
                (rw (plain, same) at (c.in_ok-start_node.ensures.met now)) before.met;
          };
    }

pub returns-clause-few : goal.returns-clause-few
returns-clause-few g c = λ those.
    let past : length c.args.nodes.now ≤ c.loop-node.node-index = search rules in
    let all = take_all c.loop-node.node-index c.args.nodes.now past in
    let gone = c.loop-node.invariant.few those in
    rw all at gone

pub returns-clause-met : goal.returns-clause-met
returns-clause-met g c = λ t.
    let past : length c.args.nodes.now ≤ c.loop-node.node-index = search rules in
    met_all (λ k. met_first c.args.attempts (states_held (g.B.Board.tells c.args.board.now)) (program_of k (shared_of_value c.args.system.now).programs)) c.args.nodes.now c.loop-node.node-index _ past
    (c.loop-node.invariant.told t).met
