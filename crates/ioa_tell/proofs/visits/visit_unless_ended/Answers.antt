use Rattle.std.proofs.Common.{ap, is_some}
use Rattle.ioa_tell.specs.Nodes.{progress_in}
use Rattle.ioa_tell.proofs.Attempted.{visit_ended, visit_tried}
use Rattle.ioa_tell.proofs.visits.visit_unless_ended.Goals as goal

pub returns-in-Some : goal.returns-in-Some
returns-in-Some g c = visit_ended g.T.Tells.hears c.args.book.now _ _ (progress_in c.args.node.now) (ap is_some c.in-Some.is)

pub returns-in_ok-visit-in-None : goal.returns-in_ok-visit-in-None
returns-in_ok-visit-in-None g c =
    visit_tried g.T.Tells.hears c.tell_stopped.result c.args.book.now c.visit.new.book _ _ _ _ _ (progress_in c.args.node.now) _ c.in-None.is c.in_ok-visit-in-None.ensures c.tell_stopped.ensures
