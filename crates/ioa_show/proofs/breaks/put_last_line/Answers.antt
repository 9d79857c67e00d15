use Rattle.std.specs.Prelude.{codes}
use Rattle.ioa_show.specs.Marks.{last_line, last_start}
use Rattle.ioa_show.specs.declared.memory.TheConstants.{RAN_OUT}
use Rattle.ioa_show.proofs.Puts.{four}
use Rattle.ioa_show.proofs.breaks.put_last_line.Goals as goal

pub returns : goal.returns
unfolding last_line
returns g c =
    four c.args.paper.now c.put_last_start.new.paper c.put.new.self c.put-2.new.self c.put-3.new.self
    (last_start c.args.frame c.args.position) (codes ">") RAN_OUT.now (codes "</text>\n")
    c.put_last_start.ensures c.put.ensures c.put-2.ensures c.put-3.ensures
