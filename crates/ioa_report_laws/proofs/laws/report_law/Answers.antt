use Rattle.ioa_report_laws.proofs.Schedules.{report_accepted, report_execution, report_read, report_spelled, same_lines, stands}
use Rattle.ioa_report_laws.proofs.WholeReports.{report_part, report_passes}
use Rattle.ioa_report_laws.proofs.laws.report_law.Goals as goal

pub returns : goal.returns
returns c =
    let taken = c.entries_law.ensures.replay in
    let of_text = c.text_system_law.ensures in
    let spelled = c.printed_lines_law.ensures.spelled in
    record {
      stands = stands;
      lines = same_lines;
      spelled = report_spelled taken of_text spelled;
      read = report_read taken of_text c.printed_lines_law.ensures.read;
      execution = report_execution taken of_text spelled;
      accepted = report_accepted taken of_text spelled c.schedule_law.ensures.execution;
      part = report_part taken of_text;
      whole = report_passes taken of_text c.schedule_law.ensures.execution;
    }
