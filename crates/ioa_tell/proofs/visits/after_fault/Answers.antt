use Rattle.std.proofs.Common.{sym}
use Rattle.ioa_turns.specs.NodeTurns.{progress_of}
use Rattle.ioa_tell.proofs.Attempted.{fault_ended, fault_missed}
use Rattle.ioa_tell.proofs.visits.after_fault.Goals as goal

pub returns-in_ok-tell_missed-in-None : goal.returns-in_ok-tell_missed-in-None
returns-in_ok-tell_missed-in-None g c =
    fault_missed g.T.Tells.hears c.args.book.now _ _ c.args.look.now (progress_of c.args.node.now) _ c.args.action.now c.in_ok-tell_missed-in-None.ensures c.pass.ensures.past

pub returns-in_ok-tell_fault-in-Some : goal.returns-in_ok-tell_fault-in-Some
returns-in_ok-tell_fault-in-Some g c =
    fault_ended g.T.Tells.hears c.end_by_fault.result c.args.book.now _ _ c.args.look.now (progress_of c.args.node.now) _ c.args.action.now c.args.fault c.in-Some.fault
    c.in_ok-tell_fault-in-Some.ensures c.requires.failed (sym c.in-Some.ensures) c.end_by_fault.ensures.memory c.end_by_fault.ensures.ended
