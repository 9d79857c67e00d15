use Rattle.std.specs.Prelude.{codes}
use Rattle.ioa_show.specs.Json.{field_key, field_start}
use Rattle.ioa_show.proofs.Puts.{three}
use Rattle.ioa_show.proofs.shaped_values.put_key.Goals as goal

pub returns : goal.returns
unfolding field_key
returns g c =
    three c.args.paper.now c.put_quote.new.paper c.put.new.self c.put-2.new.self (field_start c.args.position) c.args.name.now (codes "\":")
    c.put_quote.ensures c.put.ensures c.put-2.ensures
