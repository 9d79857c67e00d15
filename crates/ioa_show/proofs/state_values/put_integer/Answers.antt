use Rattle.std.proofs.Common.{◌≡◌, rules}
use Rattle.std.specs.Prelude.{codes}
use Rattle.std.specs.Fmt.{signed_decimal}
use Rattle.ioa_show.specs.Json.{integer_json}
use Rattle.ioa_paper.specs.Papers.{and_text}
use Rattle.ioa_show.proofs.Puts.{three}
use Rattle.ioa_show.proofs.state_values.put_integer.Goals as goal

pub returns : goal.returns
unfolding integer_json
returns g c =
    let number : c.put_number.new.self ≡ and_text c.put.new.self (signed_decimal c.args.n) = search rules in
    three c.args.paper.now c.put.new.self c.put_number.new.self c.put-2.new.self (codes "{\"#bigint\":\"") (signed_decimal c.args.n)
    (codes "\"}") c.put.ensures number c.put-2.ensures
