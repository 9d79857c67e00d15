use Rattle.std.proofs.Common.{length}
use Rattle.ioa_command.proofs.fail_on.+findings_among.Given as goal

abbrev pub decreases-findings_among : goal.decreases-findings_among
decreases-findings_among l = length l.names.now
