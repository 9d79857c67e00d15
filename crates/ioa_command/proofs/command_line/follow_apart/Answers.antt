use Rattle.std.proofs.Common.{ℕ, List, subst, string_bytes}
use Rattle.ioa_streams.specs.ScheduleParts.{schedule_part}
use Rattle.ioa_command.specs.Command.{IsChecked, output}
use Rattle.ioa_command.proofs.Readings.{checked_given}
use Rattle.ioa_command.proofs.command_line.follow_apart.Goals as goal

pub returns : goal.returns
returns g c =
    let shown =
    output (g.O.Out.bytes c.args.out.now) (g.O.Out.bytes c.judge_part.new.out) (g.O.Out.failed c.judge_part.new.out) in
    let judged : IsChecked c.args.judging c.args.text.now (schedule_part (string_bytes c.in_ok-lines.lines)) shown
    c.judge_part.result =
    subst (λ (read : List ℕ). IsChecked c.args.judging c.args.text.now (schedule_part read) shown c.judge_part.result)
    c.as_str.ensures.value c.judge_part.ensures in
    checked_given c.args.judging c.args.text.now (string_bytes c.in_ok-lines.lines) c.args.schedule.now
    (g.I.Read.remaining c.args.reader.now) shown c.judge_part.result c.in_ok-lines.ensures.read judged
