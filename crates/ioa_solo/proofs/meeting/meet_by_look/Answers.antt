use Rattle.std.proofs.Common.{◌≡◌, ◌⊎◌, Err, Some, false, refl, rules}
use Rattle.std.specs.Prelude.{is_some}
use Rattle.ioa_actions.specs.declared.component.Component.TheVariants.{Node}
use Rattle.ioa_book.specs.Looks.{snapshot_after}
use Rattle.ioa_commits.specs.Books.{held_of}
use Rattle.ioa_passes.specs.declared.outcome.ViewFault.TheVariants.{Memory, Unknown}
use Rattle.ioa_turns.specs.NodeTurns.{progress_of}
use Rattle.ioa_solo.specs.Visits.{progress_in}
use Rattle.ioa_solo.proofs.Meets.{met_seen, met_without}
use Rattle.ioa_boards.specs.Places.{SeesSome}
use Rattle.ioa_shared.specs.SomeBook.{LooksAtSome}
use Rattle.ioa_solo.proofs.SomeVisits.{seen_met, unseen_met}
use Rattle.ioa_solo.proofs.meeting.meet_by_look.Goals as goal

pub returns-in-Ok-clause-met : goal.returns-in-Ok-clause-met
returns-in-Ok-clause-met g c = λ t.
    let b = g.B.Board.tells c.args.board.now in
    let p = progress_in c.args.node.now in
    let as_told = c.in-Ok.ensures.told t in
    let seen : c.look_at.new.look ≡ Some (snapshot_after p.program.node b.start b.log) = search rules in
    met_seen b p (progress_of c.recognize.new.node) c.look_at.new.look seen c.recognize.ensures.met

pub returns-in-Err-clause-met : goal.returns-in-Err-clause-met
returns-in-Err-clause-met g c = λ t.
    let b = g.B.Board.tells c.args.board.now in
    let p = progress_in c.args.node.now in
    let as_told = c.in-Err.ensures.fault t in
    let why : (c.in-Err.fault ≡ Memory) ⊎ ((c.in-Err.fault ≡ Unknown) × (is_some (held_of b (Node p.program.node)) ≡ false)) = search rules in
    met_without c.end_by_fault.result b p (progress_of c.end_by_fault.new.node) c.in-Err.fault c.fault_of_view.result c.fault_of_view.ensures why c.end_by_fault.ensures.ended

pub returns-in-Ok-clause-some : goal.returns-in-Ok-clause-some
returns-in-Ok-clause-some g c =
    let p = progress_in c.args.node.now in
    let as_put = c.in-Ok.ensures.some in
    let put : SeesSome g.B.Board.opened c.args.hand.now.pass p.program.node c.look_at.new.look c.look_at.new.pass = search rules in
    seen_met g.B.Board.opened c.args.hand.now.pass p.program.node p (progress_of c.recognize.new.node) refl c.look_at.new.look c.look_at.new.pass put c.recognize.ensures.met

pub returns-in-Err-clause-some : goal.returns-in-Err-clause-some
returns-in-Err-clause-some g c =
    let p = progress_in c.args.node.now in
    let as_put = c.in-Err.ensures.some.0 in
    let put : LooksAtSome g.B.Board.opened c.args.hand.now.pass p.program.node (Err c.in-Err.fault) = search rules in
    unseen_met g.B.Board.opened c.args.hand.now.pass p.program.node p (progress_of c.end_by_fault.new.node) refl
    c.end_by_fault.result c.in-Err.fault c.fault_of_view.result c.fault_of_view.ensures put c.end_by_fault.ensures.ended
