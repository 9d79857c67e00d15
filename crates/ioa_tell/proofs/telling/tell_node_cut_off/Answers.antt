use Rattle.std.proofs.Common.{ap, rules, ◌∙◌, length}
use Rattle.ioa_turns.specs.NodeTurns.{progress_of}
use Rattle.ioa_tell.proofs.Attempted.{tells_stop_without}
use Rattle.ioa_tell.proofs.Tellings.{on_from}
use Rattle.ioa_tell.proofs.telling.tell_node_cut_off.Goals as goal

pub returns-in-None : goal.returns-in-None
returns-in-None g c =
    let count = c.len-number.ensures ∙ ap length c.log.ensures.value in
    on_from c.event.result c.event.ensures (λ h. tells_stop_without g.T.Tells.hears c.args.book.now c.len-number.result _ (progress_of c.args.node.now) _ _ c.in-None.is count h (search rules))
