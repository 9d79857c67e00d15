use Rattle.std.specs.Prelude.{codes}
use Rattle.ioa_show.specs.States.{description, opening_words}
use Rattle.ioa_show.proofs.Puts.{three}
use Rattle.ioa_show.proofs.states.put_opening.Goals as goal

pub returns : goal.returns
unfolding opening_words
returns g c =
    three c.args.paper.now c.put.new.self c.put_description.new.paper c.put-2.new.self (codes "{\"#meta\":{") (description c.args.is_short)
    (codes "\"format\":\"ITF\",\"varTypes\":{}},\"vars\":[\"action\"") c.put.ensures c.put_description.ensures c.put-2.ensures
