use Rattle.ioa_core.proofs.machine.Core.into_parts.Goals as goal

pub returns-clause-law : goal.returns-clause-law
returns-clause-law g c = rw (← c.self.view_is) c.into_parts.ensures.law
