use Rattle.std.proofs.Common.{ℕ, List}
use Rattle.ioa_system.specs.Systems.{SystemParts}
use Rattle.ioa_report_laws.proofs.PrintedRuns.{reported}
use Rattle.ioa_report_laws.proofs.laws.printed_run_law.Goals as goal

pub returns : goal.returns
returns c =
    let r = c.args.run_record.now in
    let steps = c.steps.ensures in
    let of_run = λ (text : List ℕ) (s : SystemParts). reported text s r c.steps.result c.args.options.now.steps steps.value steps.range c.schedule_values_law.ensures in
    record {
      spelled = λ text s h. c.report_law.ensures.spelled text s r (of_run text s h);
      read = λ text s h. c.report_law.ensures.read text s r (of_run text s h);
      execution = λ text s h. c.report_law.ensures.execution text s r (of_run text s h);
      accepted = λ text s h. c.report_law.ensures.accepted text s r (of_run text s h);
      part = λ text s endings h. c.report_law.ensures.part text s r endings (of_run text s h);
      whole = λ text s endings h. c.report_law.ensures.whole text s r endings (of_run text s h);
    }
