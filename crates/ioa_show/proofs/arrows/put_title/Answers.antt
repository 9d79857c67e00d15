use Rattle.std.specs.Prelude.{codes}
use Rattle.ioa_actions.specs.ActionParts.{receive_name, send_name}
use Rattle.ioa_values.specs.Text.{text}
use Rattle.ioa_show.specs.Arrows.{arrow_title, numbered}
use Rattle.ioa_show.proofs.Puts.{five}
use Rattle.ioa_show.proofs.arrows.put_title.Goals as goal

pub returns : goal.returns
unfolding arrow_title
returns g c =
    five c.args.paper.now c.put.new.self c.put_numbered.new.paper c.put-2.new.self c.put_numbered-2.new.paper c.put-3.new.self
    (codes "><title>")
    (numbered c.args.names.now c.args.way.start send_name (text c.args.names.now c.args.message.now) c.args.way c.args.sent.now)
    (codes " ; ")
    (numbered c.args.names.now c.args.way.end receive_name (text c.args.names.now c.args.message.now) c.args.way c.args.received.now)
    (codes "</title></line>\n") c.put.ensures c.put_numbered.ensures c.put-2.ensures c.put_numbered-2.ensures
    c.put-3.ensures
