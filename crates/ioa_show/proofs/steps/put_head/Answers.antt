use Rattle.std.specs.Prelude.{codes}
use Rattle.ioa_actions.specs.ActionParts.{action_arguments, action_name}
use Rattle.ioa_show.specs.Steps.{head_told, values_told}
use Rattle.ioa_show.proofs.Puts.{five}
use Rattle.ioa_show.proofs.steps.put_head.Goals as goal

pub returns : goal.returns
unfolding head_told
returns g c =
    five c.args.paper.now c.put.new.self c.put-2.new.self c.put-3.new.self c.put_arguments.new.paper c.put-4.new.self
    (codes "{\"action\":\"") (action_name c.args.action.now) (codes "\",\"arguments\":[")
    (values_told c.args.names.now (action_arguments c.args.action.now)) (codes "],\"changes\":[")
    c.put.ensures (rw (← c.name.ensures) c.put-2.ensures) c.put-3.ensures c.put_arguments.ensures c.put-4.ensures
