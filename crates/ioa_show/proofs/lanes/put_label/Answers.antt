use Rattle.std.proofs.Common.{◌≡◌, ◌+◌, rules}
use Rattle.std.specs.Prelude.{codes}
use Rattle.std.specs.Fmt.{signed_decimal}
use Rattle.ioa_paper.specs.Papers.{and_text}
use Rattle.ioa_show.specs.Frames.{capped}
use Rattle.ioa_show.specs.Marks.{attribute, label}
use Rattle.ioa_show.specs.declared.frame.TheConstants.{LABEL_END}
use Rattle.ioa_show.proofs.Puts.{seven}
use Rattle.ioa_show.proofs.lanes.put_label.Goals as goal

pub returns : goal.returns
unfolding label
returns g c =
    let down : c.put_number-2.new.paper ≡ and_text c.put_number.new.paper (attribute (codes " y=\"") (capped (c.args.y + 4))) = search rules in
    let number : c.put_number-3.new.self ≡ and_text c.put.new.self (signed_decimal c.args.node) = search rules in
    seven c.args.paper.now c.put_number.new.paper c.put_number-2.new.paper c.put.new.self c.put_number-3.new.self
    c.put-2.new.self c.put-3.new.self c.put-4.new.self (attribute (codes "<text text-anchor=\"end\" x=\"") LABEL_END)
    (attribute (codes " y=\"") (capped (c.args.y + 4))) (codes ">node ") (signed_decimal c.args.node) (codes ": ")
    c.args.name.now (codes "</text>\n") c.put_number.ensures down c.put.ensures number c.put-2.ensures c.put-3.ensures
    c.put-4.ensures
