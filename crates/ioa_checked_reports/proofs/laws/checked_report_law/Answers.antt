use Rattle.ioa_streams.specs.ScheduleParts.{schedule_part}
use Rattle.ioa_monitor.specs.Reports.{entry_lines, report_text}
use Rattle.ioa_checked_reports.proofs.CheckedRuns.{execution_of_text, no_fault, run_of_text}
use Rattle.ioa_checked_reports.proofs.laws.checked_report_law.Goals as goal

pub returns : goal.returns
returns c =
    let r = c.args.run_record.now in
    let o = c.args.options.now in
    record {
      execution = λ text s endings h.
          execution_of_text text (entry_lines s.names 0 r.schedule) o s r endings h (c.printed_run_law.ensures.execution text s (run_of_text text o s r endings h));
      report = λ text s endings h.
          execution_of_text text (schedule_part (report_text s r endings)) o s r endings h
          (c.schedule_law.ensures.accepted s (schedule_part (report_text s r endings)) (c.printed_run_law.ensures.whole text s endings (run_of_text text o s r endings h)));
      no_fault_of_report = λ text s endings f h.
          no_fault c.one_system_law.ensures text (schedule_part (report_text s r endings)) o s r endings f h (c.printed_run_law.ensures.whole text s endings (run_of_text text o s r endings h));
      no_fault = λ text s endings f h.
          no_fault c.one_system_law.ensures text (entry_lines s.names 0 r.schedule) o s r endings f h (c.printed_run_law.ensures.accepted text s (run_of_text text o s r endings h));
    }
