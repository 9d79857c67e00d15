use Rattle.ioa_paper.proofs.Listed.{listed_more}
use Rattle.ioa_show.specs.Tagged.{tagged}
use Rattle.ioa_show.proofs.step_parts.put_values.Goals as goal

pub loop-position-preserved : goal.loop-position-preserved
loop-position-preserved g c =
    listed_more (tagged c.args.names.now) c.args.paper.now c.loop-position.paper c.put_separator.new.paper
    c.put_tagged.new.paper c.args.values.now c.loop-position.position c.index-values-position.result
    c.loop-position.invariant c.put_separator.ensures c.put_tagged.ensures c.loop-position-test.true
    c.index-values-position.is
