use Rattle.std.proofs.Common.{◌≡◌, ◌∙◌, ap, sym, subst, rules}
use Rattle.ioa_commits.specs.Books.{PlainBook}
use Rattle.ioa_receipts.specs.Receipts.{PlainReceipts}
use Rattle.ioa_sharing.specs.Named.{shared_of_value}
use Rattle.ioa_solo.specs.Told.{IsToldTo, IsUpTo}
use Rattle.ioa_solo.specs.Visits.{attempts_left}
use Rattle.ioa_solo.proofs.Gains.{earned_of}
use Rattle.ioa_solo.proofs.Termination.{all_written}
use Rattle.ioa_solo.proofs.Works.{works_alone}
use Rattle.ioa_solo.specs.SomeVisits.{AreBegun}
use Rattle.ioa_solo.proofs.SomeVisits.{all_told, begun_few}
use Rattle.ioa_solo.proofs.working.work.Goals as goal

pub returns-clause-earned : goal.returns-clause-earned
returns-clause-earned g c =
    earned_of attempts_left c.nodes_of-visited.result.items c.deref_mut.result.now c.args.attempts c.args.nodes.now _ _ _ _ _ _ c.go_on.ensures.gained
    c.nodes_of-visited.ensures.share (ap (λ (r : PlainReceipts). r.all) c.nodes_of-visited.ensures.receipts) (search rules) c.nodes_of-visited.ensures.few

pub returns-clause-solo : goal.returns-clause-solo
returns-clause-solo g c = λ alone.
    let old = g.B.Board.tells c.args.board.now in
    let same = c.nodes_of-visited.ensures.same alone.tells.told in
    let up = c.nodes_of-visited.ensures.not_ahead alone.tells in
    let then_told : IsToldTo g.B.Board.told (g.B.Board.tells c.nodes_of-visited.new.board) c.nodes_of-visited.new.hand.pass =
    record { told = alone.tells.told; not_ahead = subst (λ (b : PlainBook). IsUpTo b c.nodes_of-visited.new.hand.pass) (sym same) up } in
    works_alone (shared_of_value c.args.system.now) c.args.attempts old (g.B.Board.tells c.go_on.new.board) c.args.nodes.now c.nodes_of-visited.result.items _ c.go_on.new.nodes c.deref.result.now c.endings_of.result
    alone.declared alone.fresh alone.all (c.nodes_of-visited.ensures.met alone.tells) (search rules) c.go_on.ensures.numbers (rw same at (c.go_on.ensures.solo then_told))
    (c.deref.ensures.value ∙ all_written c.nodes_of-visited.result.len c.go_on.new.nodes c.nodes_of-visited.result.items (search rules) (search rules)) (rw c.get.ensures at c.endings_of.ensures)

pub returns-clause-each : goal.returns-clause-each
returns-clause-each g c =
    let programs = (shared_of_value c.args.system.now).programs in
    let before = c.nodes_of-visited.result.items in
    let lending : c.deref_mut.result.now ≡ before = search rules in
    let begun = c.nodes_of-visited.ensures.begun in
    let lent : AreBegun g.B.Board.opened c.args.attempts programs c.deref_mut.result.now = rw lending begun in
    all_told g.B.Board.opened c.args.attempts programs before c.deref_mut.result.now c.go_on.new.nodes c.deref.result.now c.args.nodes.now c.endings_of.result
    begun lending c.go_on.ensures.numbers (c.go_on.ensures.ended (begun_few g.B.Board.opened c.args.attempts programs c.deref_mut.result.now lent))
    (c.deref.ensures.value ∙ all_written c.nodes_of-visited.result.len c.go_on.new.nodes before (search rules) (search rules)) (rw c.get.ensures at c.endings_of.ensures)
