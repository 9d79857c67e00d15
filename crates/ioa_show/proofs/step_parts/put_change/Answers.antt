use Rattle.std.specs.Prelude.{codes}
use Rattle.ioa_show.specs.Steps.{change_told}
use Rattle.ioa_show.specs.Tagged.{tagged}
use Rattle.ioa_show.proofs.Puts.{seven}
use Rattle.ioa_show.proofs.step_parts.put_change.Goals as goal

pub returns : goal.returns
unfolding change_told
returns g c =
    seven c.args.paper.now c.put.new.self c.put_tagged.new.paper c.put-2.new.self c.put_tagged-2.new.paper c.put-3.new.self
    c.put-4.new.self c.put-5.new.self (codes "{\"new\":") (tagged c.args.names.now c.args.new.now) (codes ",\"old\":")
    (tagged c.args.names.now c.args.old.now) (codes ",\"variable\":\"") c.args.name.now (codes "\"}") c.put.ensures
    c.put_tagged.ensures c.put-2.ensures c.put_tagged-2.ensures c.put-3.ensures c.put-4.ensures c.put-5.ensures
