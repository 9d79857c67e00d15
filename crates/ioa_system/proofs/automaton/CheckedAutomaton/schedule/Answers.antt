use Rattle.std.proofs.Common.{subst}
use Rattle.ioa_source.specs.TextView.{schedule_of}
use Rattle.ioa_system.specs.InView.{block_own_names, declared_names}
use Rattle.ioa_terms.specs.PlainTerm.{statements_of}
use Rattle.ioa_system.specs.Numbered.{AreNumbered}
use Rattle.ioa_system.specs.Parts.{AutomatonParts}
use Rattle.ioa_system.specs.ResolvedPrograms.{IsResolvedSchedule}
use Rattle.ioa_system.proofs.automaton.CheckedAutomaton.schedule.Goals as goal

pub returns-clause-resolved : goal.returns-clause-resolved
returns-clause-resolved c =
    subst (λ (a : AutomatonParts). IsResolvedSchedule (declared_names a) (block_own_names a) (schedule_of c.self.inside.schedule)) c.self.view_is c.self.invariant.resolved.schedule

pub returns-clause-numbered : goal.returns-clause-numbered
returns-clause-numbered c =
    subst (λ (a : AutomatonParts). AreNumbered a.rules (statements_of (schedule_of c.self.inside.schedule).statements)) c.self.view_is c.self.invariant.resolved.numbered
