use Rattle.ioa_index.proofs.index.Index.stands_first.Goals as goal

pub returns-then-is_first : goal.returns-then-is_first
returns-then-is_first c = λ t. c.is_first.ensures c.if-is_first.true c.args.component (c.stands_at.ensures t)
