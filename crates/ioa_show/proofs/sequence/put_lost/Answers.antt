use Rattle.std.proofs.Common.{◌≡◌, ◌++◌, rules}
use Rattle.std.specs.Prelude.{codes}
use Rattle.std.specs.Fmt.{signed_decimal}
use Rattle.ioa_values.specs.Text.{text}
use Rattle.ioa_paper.specs.Papers.{and_text}
use Rattle.ioa_show.specs.Sequences.{note}
use Rattle.ioa_show.proofs.Puts.{two, five}
use Rattle.ioa_show.proofs.sequence.put_lost.Goals as goal

pub returns : goal.returns
returns g c =
    let over : c.put_over.new.paper ≡ and_text c.args.paper.now (note c.args.from c.args.position) = search rules in
    let number : c.put_number.new.self ≡ and_text c.put-2.new.self (signed_decimal c.args.to) = search rules in
    two c.args.paper.now c.put_over.new.paper c.put-3.new.self (note c.args.from c.args.position)
    (codes "sends " ++ (text c.args.names.now c.args.message.now ++ (codes " to n" ++ (signed_decimal c.args.to ++ codes ", not received\n"))))
    over
    (five c.put_over.new.paper c.put.new.self c.put_value.new.paper c.put-2.new.self c.put_number.new.self c.put-3.new.self
    (codes "sends ") (text c.args.names.now c.args.message.now) (codes " to n") (signed_decimal c.args.to) (codes ", not received\n")
    c.put.ensures c.put_value.ensures c.put-2.ensures number c.put-3.ensures)
