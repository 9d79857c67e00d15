use Rattle.std.proofs.Common.{◌≡◌, ◌⊎◌, sym, subst, refl, Some, false, rules}
use Rattle.std.specs.Prelude.{Err, IfSome, OnErr, OnOk, is_some}
use Rattle.ioa_actions.specs.declared.component.Component.TheVariants.{Node}
use Rattle.ioa_book.specs.Looks.{snapshot_after}
use Rattle.ioa_commits.specs.Books.{PlainBook, held_of}
use Rattle.ioa_passes.specs.declared.outcome.ViewFault.TheVariants.{Memory, Unknown}
use Rattle.ioa_turns.specs.NodeTurns.{progress_of}
use Rattle.ioa_solo.specs.Fires.{Comes}
use Rattle.ioa_solo.specs.Solo.{attempt}
use Rattle.ioa_solo.specs.Told.{IsToldTo, IsUpTo}
use Rattle.ioa_solo.proofs.GoesOn.{goes_further, goes_nowhere}
use Rattle.ioa_solo.proofs.Rounds.{if_failed}
use Rattle.ioa_solo.proofs.SettledNodes.{both_settled, never_settled}
use Rattle.ioa_solo.proofs.ToldTurns.{unseen_came}
use Rattle.ioa_boards.specs.Places.{SeesSome}
use Rattle.ioa_shared.specs.SomeBook.{LooksAtSome}
use Rattle.ioa_solo.proofs.SomeVisits.{seen_attempt, unseen_attempt}
use Rattle.ioa_solo.proofs.visiting.attempt.Goals as goal

pub attempt_unless_settled-requires-clause-own : goal.attempt_unless_settled-requires-clause-own
attempt_unless_settled-requires-clause-own g c =
    let n = (progress_of c.args.node.now).program.node in
    let as_told = c.in-Ok.ensures.own in
    let own : IfSome c.look_at.new.look (λ s. s.node ≡ n) = search rules in
    own

pub returns-in-Ok-clause-goes : goal.returns-in-Ok-clause-goes
returns-in-Ok-clause-goes g c = λ t.
    let same = c.look_at.ensures.same t.told in
    let up = c.look_at.ensures.not_ahead t in
    let then_told : IsToldTo g.B.Board.told (g.B.Board.tells c.look_at.new.board) c.look_at.new.pass = record { told = t.told; not_ahead = subst (λ (b : PlainBook). IsUpTo b c.look_at.new.pass) (sym same) up } in
    let n = (progress_of c.args.node.now).program.node in
    let old = g.B.Board.tells c.args.board.now in
    let as_told = c.in-Ok.ensures.told t in
    let first : c.look_at.new.look ≡ Some (snapshot_after n old.start old.log) = search rules in
    let seen = subst (λ (b : PlainBook). c.look_at.new.look ≡ Some (snapshot_after n b.start b.log)) (sym same) first in
    goes_further _ _ _ _ _ _ _ _ (goes_nowhere _ _ _ _ _ same refl up) (c.attempt_unless_settled.ensures.goes then_told seen)

pub returns-in-Ok-clause-attempted : goal.returns-in-Ok-clause-attempted
returns-in-Ok-clause-attempted g c = λ t.
    let same = c.look_at.ensures.same t.told in
    let up = c.look_at.ensures.not_ahead t in
    let then_told : IsToldTo g.B.Board.told (g.B.Board.tells c.look_at.new.board) c.look_at.new.pass = record { told = t.told; not_ahead = subst (λ (b : PlainBook). IsUpTo b c.look_at.new.pass) (sym same) up } in
    let n = (progress_of c.args.node.now).program.node in
    let old = g.B.Board.tells c.args.board.now in
    let as_told = c.in-Ok.ensures.told t in
    let first : c.look_at.new.look ≡ Some (snapshot_after n old.start old.log) = search rules in
    let seen = subst (λ (b : PlainBook). c.look_at.new.look ≡ Some (snapshot_after n b.start b.log)) (sym same) first in
    subst (λ (b : PlainBook). OnOk c.attempt_unless_settled.result (Comes attempt b (progress_of c.args.node.now) (g.B.Board.tells c.attempt_unless_settled.new.board) (progress_of c.attempt_unless_settled.new.node))) same
    (c.attempt_unless_settled.ensures.attempted then_told seen)

pub returns-in-Err-clause-goes : goal.returns-in-Err-clause-goes
returns-in-Err-clause-goes g c = λ t. goes_nowhere _ _ _ _ _ (c.look_at.ensures.same t.told) refl (c.look_at.ensures.not_ahead t)

pub returns-in-Err-clause-attempted : goal.returns-in-Err-clause-attempted
returns-in-Err-clause-attempted g c = λ t.
    let b = g.B.Board.tells c.args.board.now in
    let p = progress_of c.args.node.now in
    let as_told = c.in-Err.ensures.fault t in
    let why : (c.in-Err.fault ≡ Memory) ⊎ ((c.in-Err.fault ≡ Unknown) × (is_some (held_of b (Node p.program.node)) ≡ false)) = search rules in
    unseen_came c.end_attempt.result b (g.B.Board.tells c.look_at.new.board) p p (progress_of c.end_attempt.new.node) c.in-Err.fault c.fault_of_view.result
    c.fault_of_view.ensures why (c.look_at.ensures.same t.told) c.end_attempt.ensures.ended

pub returns-in-Ok-clause-stays : goal.returns-in-Ok-clause-stays
returns-in-Ok-clause-stays g c = λ told.
    subst (λ (b : PlainBook). OnErr c.attempt_unless_settled.result (g.B.Board.tells c.attempt_unless_settled.new.board ≡ b)) (c.look_at.ensures.same told) (c.attempt_unless_settled.ensures.stays told)

pub returns-in-Err-clause-stays : goal.returns-in-Err-clause-stays
returns-in-Err-clause-stays g c = λ told. if_failed c.end_attempt.result (c.look_at.ensures.same told)

pub attempt_unless_settled-requires-clause-settled : goal.attempt_unless_settled-requires-clause-settled
attempt_unless_settled-requires-clause-settled g c = λ e.
    both_settled c.in-Ok.is_same c.args.is_settled (progress_of c.args.node.now) c.args.look.now c.look_at.new.look c.requires.settled c.in-Ok.ensures.again e

pub returns-in-Err-clause-settled : goal.returns-in-Err-clause-settled
returns-in-Err-clause-settled g c = never_settled _ c.end_attempt.result c.end_attempt.ensures.unsettled

pub returns-in-Ok-clause-some : goal.returns-in-Ok-clause-some
returns-in-Ok-clause-some g c =
    let n = (progress_of c.args.node.now).program.node in
    let as_put = c.in-Ok.ensures.some in
    let put : SeesSome g.B.Board.opened c.args.hand.now.pass n c.look_at.new.look c.look_at.new.pass = search rules in
    seen_attempt g.B.Board.opened c.args.hand.now.pass n (progress_of c.args.node.now) (progress_of c.attempt_unless_settled.new.node) refl
    c.attempt_unless_settled.result c.look_at.new.look c.look_at.new.pass put c.attempt_unless_settled.ensures.on_look

pub returns-in-Err-clause-some : goal.returns-in-Err-clause-some
returns-in-Err-clause-some g c =
    let n = (progress_of c.args.node.now).program.node in
    let as_put = c.in-Err.ensures.some.0 in
    let put : LooksAtSome g.B.Board.opened c.args.hand.now.pass n (Err c.in-Err.fault) = search rules in
    unseen_attempt g.B.Board.opened c.args.hand.now.pass n (progress_of c.args.node.now) (progress_of c.end_attempt.new.node) refl
    c.end_attempt.result c.in-Err.fault c.fault_of_view.result c.fault_of_view.ensures put c.end_attempt.ensures.ended
