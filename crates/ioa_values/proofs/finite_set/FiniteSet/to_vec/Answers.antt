use Rattle.std.proofs.Common.{◌≡◌, ◌+◌, take, refl, arith, rules}
use Rattle.std.proofs.lemmas.List.{take_more}
use Rattle.std.proofs.lemmas.Option.{get_or_from_slice_get}
use Rattle.ioa_values.proofs.finite_set.FiniteSet.to_vec.Goals as goal

pub loop-position-preserved : goal.loop-position-preserved
loop-position-preserved c =
    let item = get_or_from_slice_get c.args.self.now c.loop-position.position c.at.result.now c.at.result.now c.at.ensures in
    let more = take_more c.args.self.now c.loop-position.position c.at.result.now (omega arith) in
    let pushed : c.push_reserved.new.self.items ≡ take (c.loop-position.position + 1) c.args.self.now =
    rw (c.push_reserved.ensures.items, c.loop-position.invariant.0, c.in_ok-try_copy.ensures.equal, more, item) refl in
    (pushed, search rules)
