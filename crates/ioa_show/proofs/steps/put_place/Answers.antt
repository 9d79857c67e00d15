use Rattle.std.proofs.Common.{◌≡◌, rules}
use Rattle.std.specs.Prelude.{codes}
use Rattle.std.specs.Fmt.{decimal, signed_decimal}
use Rattle.ioa_actions.specs.ActionParts.{node_of}
use Rattle.ioa_show.specs.Steps.{place_told}
use Rattle.ioa_paper.specs.Papers.{and_text}
use Rattle.ioa_show.proofs.Puts.{five}
use Rattle.ioa_show.proofs.steps.put_place.Goals as goal

pub returns : goal.returns
unfolding place_told
returns g c =
    let number : c.put_number.new.self ≡ and_text c.put.new.self (signed_decimal (node_of c.args.action.now)) = search rules in
    five c.args.paper.now c.put.new.self c.put_number.new.self c.put-2.new.self c.put_number-2.new.self c.put-3.new.self
    (codes "],\"kind\":\"step\",\"node\":") (signed_decimal (node_of c.args.action.now)) (codes ",\"number\":")
    (decimal c.args.position) (codes ",\"queues\":[")
    c.put.ensures number c.put-2.ensures c.put_number-2.ensures c.put-3.ensures
