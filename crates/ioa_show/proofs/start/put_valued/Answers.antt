use Rattle.std.specs.Prelude.{codes}
use Rattle.ioa_show.specs.Start.{valued_words}
use Rattle.ioa_show.specs.Tagged.{tagged}
use Rattle.ioa_show.proofs.Puts.{four}
use Rattle.ioa_show.proofs.start.put_valued.Goals as goal

pub returns : goal.returns
unfolding valued_words
returns g c =
    four c.args.paper.now c.put_tagged.new.paper c.put.new.self c.put-2.new.self c.put-3.new.self
    (tagged c.args.names.now c.args.value.now) (codes ",\"variable\":\"") c.args.name.now (codes "\"}")
    c.put_tagged.ensures c.put.ensures c.put-2.ensures c.put-3.ensures
