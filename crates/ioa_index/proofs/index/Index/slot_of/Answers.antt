use Rattle.std.proofs.Common.{◌≡◌, Some, rules, slice_get}
use Rattle.ioa_index.proofs.Indexes.{first_listed}
use Rattle.ioa_index.proofs.index.Index.slot_of.Goals as goal

pub returns-then-stands_at : goal.returns-then-stands_at
returns-then-stands_at c =
    let there : slice_get c.args.self.now c.args.near ≡ Some c.args.component = search rules in
    first_listed c.args.self.now c.self.inside.firsts.items c.args.component c.args.near c.index.result.now (search rules) there c.index.ensures
