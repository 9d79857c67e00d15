use Rattle.ioa_report_laws.proofs.Told.{told, total_told, whole}
use Rattle.ioa_report_laws.proofs.laws.told_law.Goals as goal

pub returns : goal.returns
returns c = record {
  whole = whole;
  total = total_told;
  tells = λ p text s t u spelled is one other same.
      told c.text_system_law.ensures c.entries_law.ensures.execution c.shapes_kept_law.ensures.execution c.printed_lines_law.ensures.read p text s spelled is t u one other same;
}
