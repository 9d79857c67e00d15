use Rattle.std.proofs.Common.{◌≡◌, rules}
use Rattle.std.specs.Prelude.{codes}
use Rattle.std.specs.Fmt.{signed_decimal}
use Rattle.ioa_paper.specs.Papers.{and_text}
use Rattle.ioa_show.specs.Sorts.{sort_text}
use Rattle.ioa_show.specs.Start.{sorted_words}
use Rattle.ioa_show.proofs.Puts.{five}
use Rattle.ioa_show.proofs.start.put_sorted.Goals as goal

pub returns : goal.returns
unfolding sorted_words
returns g c =
    let number : c.put_number.new.self ≡ and_text c.put.new.self (signed_decimal c.args.node) = search rules in
    five c.args.paper.now c.put.new.self c.put_number.new.self c.put-2.new.self c.put_sort.new.paper c.put-3.new.self
    (codes "{\"node\":") (signed_decimal c.args.node) (codes ",\"sort\":\"") (sort_text c.args.shape.now) (codes "\",\"value\":")
    c.put.ensures number c.put-2.ensures c.put_sort.ensures c.put-3.ensures
