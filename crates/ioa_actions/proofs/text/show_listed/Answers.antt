use Rattle.ioa_values.specs.Text.{text}
use Rattle.ioa_values.proofs.Commas.{with_commas-more}
use Rattle.ioa_actions.proofs.text.show_listed.Goals as goal

pub loop-position-preserved : goal.loop-position-preserved
loop-position-preserved c =
    let more = with_commas-more (text c.args.names.now) c.args.values.now c.loop-position.position c.index-values-position.result c.loop-position-test.true in
    cc (c.in_ok-push_listed.ensures, c.in_ok-item.ensures.text)
