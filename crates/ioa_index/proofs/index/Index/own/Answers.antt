use Rattle.std.proofs.Common.{rules}
use Rattle.ioa_index.proofs.Indexes.{within_own}
use Rattle.ioa_index.proofs.index.Index.own.Goals as goal

pub returns-in-Some-clause-within : goal.returns-in-Some-clause-within
returns-in-Some-clause-within c = within_own c.args.node c.args.self.now c.in-Some.slots.now (search rules)

pub returns-in-None-clause-within : goal.returns-in-None-clause-within
returns-in-None-clause-within c = within_own c.args.node c.args.self.now c.own_anywhere.result.now (search rules)
