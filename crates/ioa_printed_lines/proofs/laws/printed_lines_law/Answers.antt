use Rattle.ioa_printed_lines.proofs.LinesRead.{lines_read, lines_answered}
use Rattle.ioa_printed_lines.proofs.laws.printed_lines_law.Goals as goal

pub returns : goal.returns
returns c = record {
  spelled = lines_read;
  read = lines_answered;
}
