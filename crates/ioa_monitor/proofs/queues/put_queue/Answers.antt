use Rattle.std.proofs.Common.{◌≡◌, ◌++◌, map, rules}
use Rattle.std.specs.Prelude.{codes}
use Rattle.std.specs.Fmt.{signed_decimal}
use Rattle.ioa_values.specs.Text.{with_commas}
use Rattle.ioa_paper.specs.Papers.{and_text}
use Rattle.ioa_monitor.specs.Reports.{item_text}
use Rattle.ioa_monitor.proofs.queues.put_queue.Goals as goal

pub returns-in-Channel : goal.returns-in-Channel
returns-in-Channel g c =
    let put : c.put_channel.new.paper ≡ and_text c.args.paper.now (codes "channel "
    ++ (signed_decimal c.in-Channel.from ++ (codes " -> " ++ (signed_decimal c.in-Channel.to ++ (codes " {"
    ++ (with_commas (map (item_text c.names.result.now) c.args.queue.now.items) ++ codes "}\n")))))) = search rules in
    rw (← c.component.ensures, c.in-Channel.is, ← c.names.ensures) put
