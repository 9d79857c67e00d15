use Rattle.std.proofs.Common.{◌≡◌, rules}
use Rattle.std.specs.Prelude.{codes}
use Rattle.std.specs.Fmt.{signed_decimal}
use Rattle.ioa_show.specs.States.{variable_key}
use Rattle.ioa_paper.specs.Papers.{and_text}
use Rattle.ioa_show.proofs.Puts.{five}
use Rattle.ioa_show.proofs.state_parts.put_variable_key.Goals as goal

pub returns : goal.returns
unfolding variable_key
returns g c =
    let number : c.put_number.new.self ≡ and_text c.put-3.new.self (signed_decimal c.args.node) = search rules in
    five c.args.paper.now c.put.new.self c.put-2.new.self c.put-3.new.self c.put_number.new.self c.put-4.new.self
    (codes ",\"") c.args.name.now (codes "@") (signed_decimal c.args.node) (codes "\"")
    c.put.ensures c.put-2.ensures c.put-3.ensures number c.put-4.ensures
