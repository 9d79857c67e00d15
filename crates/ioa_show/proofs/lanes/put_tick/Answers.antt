use Rattle.std.proofs.Common.{◌≡◌, rules}
use Rattle.std.specs.Prelude.{codes}
use Rattle.std.specs.Fmt.{decimal}
use Rattle.ioa_paper.specs.Papers.{and_text}
use Rattle.ioa_show.specs.Frames.{x_of}
use Rattle.ioa_show.specs.Marks.{attribute, tick}
use Rattle.ioa_show.proofs.Puts.{four}
use Rattle.ioa_show.proofs.lanes.put_tick.Goals as goal

pub returns : goal.returns
unfolding tick
returns g c =
    let across : c.put_number.new.paper ≡ and_text c.args.paper.now (attribute (codes "<text class=\"k\" y=\"12\" x=\"") (x_of c.args.frame c.args.position)) = search rules in
    four c.args.paper.now c.put_number.new.paper c.put.new.self c.put_number-2.new.self c.put-2.new.self
    (attribute (codes "<text class=\"k\" y=\"12\" x=\"") (x_of c.args.frame c.args.position)) (codes ">")
    (decimal c.args.position) (codes "</text>\n") across c.put.ensures c.put_number-2.ensures c.put-2.ensures
