use Rattle.std.proofs.Common.{rules}
use Rattle.ioa_values.specs.ItemLists.{items_in}
use Rattle.ioa_values.proofs.Removing.{first_loses, second_loses}
use Rattle.ioa_values.proofs.sequence.Sequence.without_item.Goals as goal

pub invariant_of-result : goal.invariant_of-result
invariant_of-result c =
    first_loses (items_in c.self.inside.front) (items_in c.self.inside.back) (items_in c.in_ok-front.front)
    (items_in c.in_ok-back.back) c.args.position (search rules) c.in_ok-front.ensures c.in_ok-back.ensures
    c.self.invariant

pub invariant_of-result-else-position-count : goal.invariant_of-result-else-position-count
invariant_of-result-else-position-count c =
    second_loses (items_in c.self.inside.front) (items_in c.self.inside.back) (items_in c.in_ok-back-2.back)
    (items_in c.in_ok-front-2.front) c.args.position (search rules) (search rules) c.in_ok-front-2.ensures
    c.self.invariant
