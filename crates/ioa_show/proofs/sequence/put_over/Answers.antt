use Rattle.std.proofs.Common.{◌≡◌, rules}
use Rattle.std.specs.Prelude.{codes}
use Rattle.std.specs.Fmt.{decimal, signed_decimal}
use Rattle.ioa_show.specs.Sequences.{note}
use Rattle.ioa_paper.specs.Papers.{and_text}
use Rattle.ioa_show.proofs.Puts.{five}
use Rattle.ioa_show.proofs.sequence.put_over.Goals as goal

pub returns : goal.returns
unfolding note
returns g c =
    let number : c.put_number.new.self ≡ and_text c.put.new.self (signed_decimal c.args.node) = search rules in
    five c.args.paper.now c.put.new.self c.put_number.new.self c.put-2.new.self c.put_number-2.new.self c.put-3.new.self
    (codes "    Note over n") (signed_decimal c.args.node) (codes ": ") (decimal c.args.position) (codes " ")
    c.put.ensures number c.put-2.ensures c.put_number-2.ensures c.put-3.ensures
