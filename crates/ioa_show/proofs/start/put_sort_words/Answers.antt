use Rattle.std.specs.Prelude.{codes}
use Rattle.ioa_show.specs.Sorts.{sort_text}
use Rattle.ioa_show.specs.Start.{sort_words}
use Rattle.ioa_show.proofs.Puts.{three}
use Rattle.ioa_show.proofs.start.put_sort_words.Goals as goal

pub returns : goal.returns
unfolding sort_words
returns g c =
    three c.args.paper.now c.put.new.self c.put_sort.new.paper c.put-2.new.self (codes ",\"sort\":\"") (sort_text c.args.shape.now) (codes "\"")
    c.put.ensures c.put_sort.ensures c.put-2.ensures
