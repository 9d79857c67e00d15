use Rattle.std.proofs.Common.{◌≡◌, rules}
use Rattle.std.specs.Prelude.{codes}
use Rattle.std.specs.Fmt.{decimal, signed_decimal}
use Rattle.ioa_paper.specs.Papers.{and_text}
use Rattle.ioa_show.specs.Start.{script_told}
use Rattle.ioa_show.proofs.Puts.{five}
use Rattle.ioa_show.proofs.start.put_script.Goals as goal

pub returns : goal.returns
unfolding script_told
returns g c =
    let number : c.put_number-2.new.self ≡ and_text c.put-2.new.self (signed_decimal c.args.node) = search rules in
    five c.args.paper.now c.put.new.self c.put_number.new.self c.put-2.new.self c.put_number-2.new.self c.put-3.new.self
    (codes "{\"length\":") (decimal c.args.length) (codes ",\"script\":") (signed_decimal c.args.node) (codes "}")
    c.put.ensures c.put_number.ensures c.put-2.ensures number c.put-3.ensures
