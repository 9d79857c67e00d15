use Rattle.std.proofs.Common.{ℕ, List}
use Rattle.ioa_system.specs.Systems.{SystemParts}
use Rattle.ioa_record.specs.declared.ending.Ending.{Ending}
use Rattle.ioa_report_laws.proofs.ToldRuns.{same_told}
use Rattle.ioa_report_laws.proofs.laws.told_run_law.Goals as goal

pub returns : goal.returns
returns c =
    let first = c.args.first.now in
    let second = c.args.second.now in
    λ (text : List ℕ) (s : SystemParts) (endings later : List Ending) run other same.
    same_told c.told_law.ensures.whole c.told_law.ensures.tells text s first second endings later c.args.options.now.steps run (c.run_told.ensures text s endings run) (c.run_told-2.ensures text s later other) same
