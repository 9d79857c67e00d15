use Rattle.std.proofs.Common.{◌≡◌, rules}
use Rattle.std.specs.Prelude.{codes}
use Rattle.ioa_paper.specs.Papers.{and_text}
use Rattle.ioa_show.specs.Frames.{width}
use Rattle.ioa_show.specs.Marks.{attribute, backing}
use Rattle.ioa_show.proofs.Puts.{four}
use Rattle.ioa_show.proofs.space_time.put_ground.Goals as goal

pub returns : goal.returns
unfolding backing
returns g c =
    let wide : c.put_number-2.new.paper ≡ and_text c.put_number.new.paper (attribute (codes " width=\"") (width c.args.frame)) = search rules in
    four c.args.paper.now c.put_number.new.paper c.put_number-2.new.paper c.put_number-3.new.paper c.put.new.self
    (attribute (codes "<rect x=\"-") c.args.frame.margin) (attribute (codes " width=\"") (width c.args.frame))
    (attribute (codes " height=\"") c.args.frame.bottom) (codes " fill=\"#fff\"/>\n")
    c.put_number.ensures wide c.put_number-3.ensures c.put.ensures
