use Rattle.std.proofs.Common.{◌≡◌, rules}
use Rattle.std.specs.Prelude.{codes}
use Rattle.std.specs.Fmt.{decimal}
use Rattle.std.specs.Option.{option_copied}
use Rattle.ioa_paper.specs.Papers.{and_text}
use Rattle.ioa_show.specs.Start.{channel_told, ends_told, sort_told}
use Rattle.ioa_show.proofs.Puts.{five}
use Rattle.ioa_show.proofs.start.put_channel_queue.Goals as goal

pub returns : goal.returns
unfolding channel_told
returns g c =
    let ends : c.put_channel.new.paper ≡ and_text c.args.paper.now (ends_told c.args.from c.args.to) = search rules in
    five c.args.paper.now c.put_channel.new.paper c.put.new.self c.put_number.new.self c.put_messages_sort.new.paper c.put-2.new.self
    (ends_told c.args.from c.args.to) (codes ",\"length\":") (decimal c.args.length) (sort_told (option_copied c.args.shape)) (codes "}")
    ends c.put.ensures c.put_number.ensures c.put_messages_sort.ensures c.put-2.ensures
