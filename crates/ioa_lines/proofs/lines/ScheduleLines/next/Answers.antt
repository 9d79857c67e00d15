use Rattle.ioa_lines.proofs.Left.{next_fewer, next_tells}
use Rattle.ioa_lines.proofs.lines.ScheduleLines.next.Goals as goal

pub returns-clause-entries : goal.returns-clause-entries
returns-clause-entries c = next_tells c.args.system.now c.args.self.now c.read_on.new.self c.read_on.result c.read_on.ensures

pub returns-clause-fewer : goal.returns-clause-fewer
returns-clause-fewer c = next_fewer c.args.system.now c.args.self.now c.read_on.new.self c.read_on.result c.read_on.ensures
