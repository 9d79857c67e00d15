use Rattle.std.specs.Prelude.{codes}
use Rattle.ioa_show.specs.Judged.{invariant_words}
use Rattle.ioa_show.proofs.Puts.{three}
use Rattle.ioa_show.proofs.judged.put_invariant.Goals as goal

pub returns : goal.returns
unfolding invariant_words
returns g c =
    three c.args.paper.now c.put.new.self c.put-2.new.self c.put-3.new.self (codes "{\"invariant\":\"") c.args.name.now (codes "\"")
    c.put.ensures c.put-2.ensures c.put-3.ensures
