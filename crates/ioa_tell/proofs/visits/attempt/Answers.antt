use Rattle.std.proofs.Common.{refl}
use Rattle.ioa_turns.specs.NodeTurns.{progress_of}
use Rattle.ioa_tell.proofs.Attempted.{attempt_done, attempt_fires, attempt_idle, attempt_stuck, turn_ends}
use Rattle.ioa_tell.proofs.visits.attempt.Goals as goal

pub returns-in-Ok-Done : goal.returns-in-Ok-Done
returns-in-Ok-Done g c =
    attempt_done g.T.Tells.hears c.args.book.now c.args.look.now (progress_of c.args.node.now) c.requires.fresh c.requires.own _ _ (progress_of c.turn_of.new.node) _ (turn_ends _ _ _ _ _ c.in-Ok-Done.ensures.turn c.in-Ok-Done.field-0-is) refl

pub returns-in-Ok-Idle : goal.returns-in-Ok-Idle
returns-in-Ok-Idle g c =
    attempt_idle g.T.Tells.hears c.args.book.now c.args.look.now (progress_of c.args.node.now) c.requires.fresh c.requires.own c.tell_idle.result _ _ _ (progress_of c.turn_of.new.node) (turn_ends _ _ _ _ _ c.in-Ok-Idle.ensures.turn c.in-Ok-Idle.field-0-is) c.tell_idle.ensures

pub returns-in-Ok-Fire : goal.returns-in-Ok-Fire
returns-in-Ok-Fire g c =
    attempt_fires g.T.Tells.hears c.args.book.now c.args.look.now (progress_of c.args.node.now) c.requires.fresh c.requires.own c.go_past.result _ _ _ _ _ (progress_of c.turn_of.new.node) _ _ _ _
    (turn_ends _ _ _ _ _ c.in-Ok-Fire.ensures.turn c.in-Ok-Fire.field-0-is) c.turn_of.ensures.same_program c.go_past.ensures

pub returns-in_ok-tell_stuck-in-Err : goal.returns-in_ok-tell_stuck-in-Err
returns-in_ok-tell_stuck-in-Err g c =
    attempt_stuck g.T.Tells.hears c.args.book.now c.args.look.now (progress_of c.args.node.now) c.requires.fresh c.requires.own c.end_by_fault.result _ _ _ (progress_of c.turn_of.new.node) _ _
    c.in_ok-tell_stuck-in-Err.ensures c.in-Err.ensures.turn c.in-Err.ensures.unchanged c.end_by_fault.ensures.memory c.end_by_fault.ensures.ended
