use Rattle.ioa_printed_lines.proofs.ValuesRead.{value_read}
use Rattle.ioa_printed_lines.proofs.laws.printed_value_law.Goals as goal

pub returns : goal.returns
returns c = value_read
