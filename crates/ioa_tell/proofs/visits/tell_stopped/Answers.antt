use Rattle.std.proofs.Common.{ap, rules, ◌∙◌, length}
use Rattle.ioa_turns.specs.NodeTurns.{progress_of}
use Rattle.ioa_tell.proofs.Attempted.{tells_no_stop, tells_stop}
use Rattle.ioa_tell.proofs.Tellings.{on_from}
use Rattle.ioa_tell.proofs.visits.tell_stopped.Goals as goal

pub returns-in-None : goal.returns-in-None
returns-in-None g c = tells_no_stop g.T.Tells.hears c.args.book.now (progress_of c.args.node.now) _ c.in-None.is

pub returns-in-Some : goal.returns-in-Some
returns-in-Some g c =
    let count = c.len-number.ensures ∙ ap length c.log.ensures.value in
    on_from c.event.result c.event.ensures (λ h. tells_stop g.T.Tells.hears c.args.book.now c.len-number.result _ (progress_of c.args.node.now) _ _ _ c.in-Some.is count h (search rules))
