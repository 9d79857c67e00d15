-- What is written, once a run has left its record.
use Rattle.std.proofs.Common.{ℕ, Bool, List, Option, Result, Ok, Err, IfErr, refl}
use Rattle.ioa_system.specs.Systems.{SystemParts}
use Rattle.ioa_record.specs.declared.ending.Ending.{Ending}
use Rattle.ioa_record.specs.declared.record.Record.{Record}
use Rattle.ioa_monitor.specs.Reports.{report_text}
use Rattle.ioa_monitor.specs.declared.findings.Findings.{Findings}
use Rattle.ioa_record.specs.Options.{PlainOptions}
use Rattle.ioa_pipeline.specs.declared.whole_run.RunFault.{RunFault}
use Rattle.ioa_pipeline.specs.declared.whole_run.RunFault.TheVariants.{Front, Check, Finish, Memory, Write}
use Rattle.ioa_pipeline.specs.WholeRun.{IsFaultOfWorkers, IsLeftBy, IsRefusalOf, IsReport, WritesReport, WritesText}
use Rattle.ioa_pipeline.specs.WholeRun.{found_in}

-- the report of what a run left
abbrev made : (text : List ℕ) (options : PlainOptions) (s : SystemParts) (left : Record) (endings : List Ending)
    → IsLeftBy text options s left endings → IsReport text options (report_text s left endings)
made text options s left endings h =
    record {
      parts = s;
      described = h.described;
      left = left;
      endings = endings;
      run = h.run;
      counted = h.counted;
      alone = h.alone;
      solo = h.solo;
      written = refl;
    }

-- its text is a report's
pub reported : (text : List ℕ) (options : PlainOptions) (s : SystemParts) (left : Record) (endings : List Ending)
    (old new : Option (List ℕ)) (failed : Bool) (r : Result Findings RunFault) → IsLeftBy text options s left endings
    → WritesText (report_text s left endings) (found_in s left endings) old new failed r
    → WritesReport text options old new failed r
reported text options s left endings old new failed (Ok x) h w =
    (w.0, (report_text s left endings, made text options s left endings h, w.1, w.2))
reported text options s left endings old new failed (Err Write) h w =
    (w.0, (report_text s left endings, made text options s left endings h, w.1))
reported text options s left endings old new failed (Err Memory) h w = w
reported text options s left endings old new failed (Err (Front f)) h w = absurd w
reported text options s left endings old new failed (Err (Check f)) h w = absurd w
reported text options s left endings old new failed (Err (Finish f)) h w = absurd w

-- and its faults say nothing of the text
pub late : (text report : List ℕ) (found : Findings) (old new : Option (List ℕ)) (failed : Bool) (r : Result Findings RunFault)
    → WritesText report found old new failed r → IfErr r (λ f. IsRefusalOf f text)
late text report found old new failed (Ok x) w = tt
late text report found old new failed (Err Write) w = tt
late text report found old new failed (Err Memory) w = tt
late text report found old new failed (Err (Front f)) w = absurd w
late text report found old new failed (Err (Check f)) w = absurd w
late text report found old new failed (Err (Finish f)) w = absurd w

-- and none of them is of finishing
pub calm : (workers : ℕ) (report : List ℕ) (found : Findings) (old new : Option (List ℕ)) (failed : Bool) (r : Result Findings RunFault)
    → WritesText report found old new failed r → IfErr r (IsFaultOfWorkers workers)
calm workers report found old new failed (Ok x) w = tt
calm workers report found old new failed (Err Write) w = tt
calm workers report found old new failed (Err Memory) w = tt
calm workers report found old new failed (Err (Front f)) w = absurd w
calm workers report found old new failed (Err (Check f)) w = absurd w
calm workers report found old new failed (Err (Finish f)) w = absurd w
