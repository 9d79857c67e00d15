use Rattle.std.proofs.Common.{◌≡◌, rules}
use Rattle.std.specs.Prelude.{codes}
use Rattle.ioa_actions.specs.ActionParts.{node_of}
use Rattle.ioa_paper.specs.Papers.{and_text}
use Rattle.ioa_show.specs.Frames.{point_of}
use Rattle.ioa_show.specs.Marks.{action_class, attribute, dot_mark}
use Rattle.ioa_show.proofs.Puts.{five}
use Rattle.ioa_show.proofs.dots.put_mark.Goals as goal

pub returns : goal.returns
unfolding dot_mark
returns g c =
    let place = point_of c.args.frame c.args.position (node_of c.args.action.now) in
    let across : c.put_number.new.paper ≡ and_text c.put-2.new.self (attribute (codes "\" cx=\"") place.x) = search rules in
    let down : c.put_number-2.new.paper ≡ and_text c.put_number.new.paper (attribute (codes " cy=\"") place.y) = search rules in
    five c.args.paper.now c.put.new.self c.put-2.new.self c.put_number.new.paper c.put_number-2.new.paper c.put-3.new.self
    (codes "<circle class=\"") (action_class c.args.action.now) (attribute (codes "\" cx=\"") place.x)
    (attribute (codes " cy=\"") place.y) (codes " r=\"3\"") c.put.ensures (rw (← c.class_of.ensures) c.put-2.ensures)
    across down c.put-3.ensures
