use Rattle.std.proofs.Common.{◌≡◌, rules}
use Rattle.std.specs.Prelude.{codes}
use Rattle.std.specs.Fmt.{signed_decimal}
use Rattle.ioa_paper.specs.Papers.{and_text}
use Rattle.ioa_show.proofs.Puts.{five}
use Rattle.ioa_show.proofs.step_parts.put_channel.Goals as goal

pub returns : goal.returns
returns g c =
    let first : c.put_number.new.self ≡ and_text c.put.new.self (signed_decimal c.args.from) = search rules in
    let second : c.put_number-2.new.self ≡ and_text c.put-2.new.self (signed_decimal c.args.to) = search rules in
    five c.args.paper.now c.put.new.self c.put_number.new.self c.put-2.new.self c.put_number-2.new.self c.put-3.new.self
    (codes "{\"channel\":[") (signed_decimal c.args.from) (codes ", ") (signed_decimal c.args.to) (codes "]")
    c.put.ensures first c.put-2.ensures second c.put-3.ensures
