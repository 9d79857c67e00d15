use Rattle.std.proofs.Common.{ℕ, List, subst}
use Rattle.ioa_command.specs.Command.{IsChecked, output}
use Rattle.ioa_command.proofs.command_line.judge_part.Goals as goal

pub returns : goal.returns
returns g c =
    subst (λ (lines : List ℕ). IsChecked c.args.judging c.args.text.now lines
    (output (g.O.Out.bytes c.args.out.now) (g.O.Out.bytes c.judge_lines.new.out) (g.O.Out.failed c.judge_lines.new.out))
    c.judge_lines.result) c.schedule_part-lines.ensures c.judge_lines.ensures
