use Rattle.ioa_terms.specs.View.{firing_of, statement_of}
use Rattle.ioa_terms.specs.Views.{names_in_view}
use Rattle.ioa_schedules.specs.Controls.{todo_of}
use Rattle.ioa_schedules.proofs.Firsts.{firing_resolved}
use Rattle.ioa_schedules.proofs.turning.turn_here.Goals as goal

pub fired-requires-clause-resolved : goal.fired-requires-clause-resolved
fired-requires-clause-resolved c =
    firing_resolved (firing_of c.in-Some-firing_in.firing.now) (statement_of c.in-Some.first.now) (todo_of c.args.control.now) _ (names_in_view c.args.view.now) c.in-Some-firing_in.ensures c.in-Some.ensures c.requires.resolved
