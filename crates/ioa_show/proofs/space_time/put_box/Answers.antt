use Rattle.std.proofs.Common.{◌≡◌, rules}
use Rattle.std.specs.Prelude.{codes}
use Rattle.std.specs.Fmt.{decimal}
use Rattle.ioa_paper.specs.Papers.{and_text}
use Rattle.ioa_show.specs.Frames.{width}
use Rattle.ioa_show.specs.Marks.{attribute, box_words}
use Rattle.ioa_show.proofs.Puts.{seven}
use Rattle.ioa_show.proofs.space_time.put_box.Goals as goal

pub returns : goal.returns
unfolding box_words
returns g c =
    let wide : c.put_number.new.paper ≡ and_text c.args.paper.now (attribute (codes " width=\"") (width c.args.frame)) = search rules in
    let far : c.put_number-4.new.self ≡ and_text c.put-2.new.self (decimal (width c.args.frame)) = search rules in
    seven c.args.paper.now c.put_number.new.paper c.put_number-2.new.paper c.put.new.self c.put_number-3.new.self
    c.put-2.new.self c.put_number-4.new.self c.put_number-5.new.paper (attribute (codes " width=\"") (width c.args.frame))
    (attribute (codes " height=\"") c.args.frame.bottom) (codes " viewBox=\"-") (decimal c.args.frame.margin)
    (codes " 0 ") (decimal (width c.args.frame)) (attribute (codes " ") c.args.frame.bottom)
    wide c.put_number-2.ensures c.put.ensures c.put_number-3.ensures c.put-2.ensures far c.put_number-5.ensures
