use Rattle.std.specs.Prelude.{codes}
use Rattle.ioa_show.specs.States.{described}
use Rattle.ioa_show.specs.declared.memory.TheConstants.{RAN_OUT}
use Rattle.ioa_show.proofs.Puts.{three}
use Rattle.ioa_show.proofs.states.put_described.Goals as goal

pub returns : goal.returns
unfolding described
returns g c =
    three c.args.paper.now c.put.new.self c.put-2.new.self c.put-3.new.self (codes "\"description\":\"") RAN_OUT.now
    (codes "\",") c.put.ensures c.put-2.ensures c.put-3.ensures
