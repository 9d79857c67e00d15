use Rattle.ioa_sharing.specs.Named.{shared_of_value}
use Rattle.ioa_solo.specs.Visits.{progress_in}
use Rattle.ioa_solo.proofs.OwnPrograms.{met_opened}
use Rattle.std.proofs.Common.{inl, inr, refl}
use Rattle.ioa_solo.proofs.ToldFires.{on_map}
use Rattle.ioa_solo.proofs.meeting.meet.Goals as goal

pub returns-then-is_opened_with-clause-met : goal.returns-then-is_opened_with-clause-met
returns-then-is_opened_with-clause-met g c = λ t.
    met_opened (shared_of_value c.args.system.now) (g.B.Board.tells c.args.board.now) (progress_in c.args.node.now)
    (c.is_opened_with.ensures.told t.told c.if-is_opened_with.true) c.requires.own

pub returns-then-is_opened_with-clause-some : goal.returns-then-is_opened_with-clause-some
returns-then-is_opened_with-clause-some g c = inl refl

pub returns-else-is_opened_with-clause-some : goal.returns-else-is_opened_with-clause-some
returns-else-is_opened_with-clause-some g c = on_map c.meet_by_look.result (λ h. inr h) c.meet_by_look.ensures.some
