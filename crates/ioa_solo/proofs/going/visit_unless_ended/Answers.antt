use Rattle.ioa_solo.proofs.Rounds.{if_failed}
use Rattle.std.proofs.Common.{inl, refl, ap}
use Rattle.std.specs.Prelude.{is_some}
use Rattle.ioa_solo.specs.Visits.{progress_in}
use Rattle.ioa_solo.proofs.SomeVisits.{passed_visit}
use Rattle.ioa_solo.proofs.going.visit_unless_ended.Goals as goal

pub returns-in-None-clause-began : goal.returns-in-None-clause-began
returns-in-None-clause-began g c = if_failed c.visit_under_way.result c.in-None.is

pub returns-in-Some-clause-passed : goal.returns-in-Some-clause-passed
returns-in-Some-clause-passed g c = inl (ap (λ o. is_some o) c.in-Some.is, refl)

pub returns-in-None-clause-passed : goal.returns-in-None-clause-passed
returns-in-None-clause-passed g c = passed_visit c.visit_under_way.result g.B.Board.opened (progress_in c.args.node.now) (progress_in c.visit_under_way.new.node) c.in-None.is c.visit_under_way.ensures.passed
