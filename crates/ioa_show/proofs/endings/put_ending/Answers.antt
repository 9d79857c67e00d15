use Rattle.std.specs.Prelude.{codes}
use Rattle.std.specs.Fmt.{decimal}
use Rattle.ioa_record.specs.Endings.{ending_text}
use Rattle.ioa_show.specs.Steps.{ending_line}
use Rattle.ioa_show.proofs.Puts.{five}
use Rattle.ioa_show.proofs.endings.put_ending.Goals as goal

pub returns : goal.returns
unfolding ending_line
returns g c =
    five c.args.paper.now c.put.new.self c.put_number.new.self c.put-2.new.self c.put_end.new.paper c.put-3.new.self
    (codes "{\"kind\":\"ending\",\"node\":") (decimal c.args.node) (codes ",\"text\":\"") (ending_text c.args.ending) (codes "\"}\n")
    c.put.ensures c.put_number.ensures c.put-2.ensures c.put_end.ensures c.put-3.ensures
