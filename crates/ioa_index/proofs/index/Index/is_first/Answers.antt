use Rattle.std.proofs.Common.{rules}
use Rattle.ioa_index.proofs.Indexes.{listed_first}
use Rattle.ioa_index.proofs.index.Index.is_first.Goals as goal

pub returns : goal.returns
returns c = λ t.
    listed_first c.args.self.now c.self.inside.firsts.items c.args.slot (search rules)
    (rw c.deref.ensures.value at (c.holds_itself.ensures t))
