use Rattle.ioa_index.proofs.Indexes.{first_found, none_found}
use Rattle.ioa_index.proofs.index.first_of.Goals as goal

pub returns-in-Some : goal.returns-in-Some
returns-in-Some c = first_found c.args.components.now c.args.component c.in-Some.slot c.in-Some.ensures

pub returns-in-None : goal.returns-in-None
returns-in-None c = none_found c.args.components.now c.args.component c.in-None.ensures
