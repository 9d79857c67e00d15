use Rattle.std.proofs.Common.{ℕ, List, subst}
use Rattle.ioa_system.specs.Systems.{SystemParts}
use Rattle.ioa_record.specs.declared.ending.Ending.{Ending}
use Rattle.ioa_runtime_values.specs.RuntimeValues.{AreRuntimeConfs}
use Rattle.ioa_report_laws.proofs.ToldRuns.{run_told}
use Rattle.ioa_report_laws.proofs.laws.run_told.Goals as goal

pub returns : goal.returns
returns c =
    let r = c.args.run_record.now in
    let steps = c.steps.ensures in
    λ (text : List ℕ) (s : SystemParts) (endings : List Ending). run_told text s r endings c.steps.result c.args.options.now.steps steps.value steps.range c.schedule_values_law.ensures (subst AreRuntimeConfs c.deref.ensures.value c.states_values_law.ensures)
