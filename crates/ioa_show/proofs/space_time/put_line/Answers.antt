use Rattle.std.specs.Prelude.{codes}
use Rattle.ioa_show.specs.Marks.{attribute, line}
use Rattle.ioa_show.proofs.Puts.{six}
use Rattle.ioa_show.proofs.space_time.put_line.Goals as goal

pub returns : goal.returns
unfolding line
returns g c =
    six c.args.paper.now c.put.new.self c.put-2.new.self c.put_number.new.paper c.put_number-2.new.paper
    c.put_number-3.new.paper c.put_number-4.new.paper (codes "<line class=\"") c.args.class.now
    (attribute (codes "\" x1=\"") c.args.start.x) (attribute (codes " y1=\"") c.args.start.y)
    (attribute (codes " x2=\"") c.args.end.x) (attribute (codes " y2=\"") c.args.end.y)
    c.put.ensures c.put-2.ensures c.put_number.ensures c.put_number-2.ensures c.put_number-3.ensures
    c.put_number-4.ensures
