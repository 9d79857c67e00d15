use Rattle.ioa_show.proofs.SomeChosen.{some_chosen}
use Rattle.ioa_show.proofs.step_parts.put_chosen.Goals as goal

pub returns-in-len1-up : goal.returns-in-len1-up
returns-in-len1-up g c =
    some_chosen c.args.paper.now c.put.new.self c.put_values.new.paper c.args.names.now c.args.chosen.now
    c.in-len1-up.len_at_least c.put.ensures c.put_values.ensures
