use Rattle.std.proofs.Common.{ap, ◌∙◌}
use Rattle.ioa_book.specs.Looks.{PlainSnapshot}
use Rattle.ioa_reasons.specs.PlainReasons.{reason_of}
use Rattle.ioa_tell.proofs.Taking.{missed_in}
use Rattle.ioa_tell.proofs.Tellings.{on_from, tells_missed}
use Rattle.ioa_tell.proofs.visits.tell_reason.Goals as goal

pub returns : goal.returns
returns g c =
    let count = c.length-number.ensures ∙ ap (λ (s : PlainSnapshot). s.length) c.requires.fresh in
    let missed = missed_in c.args.book.now c.args.action.now c.args.look.now (reason_of c.args.reason) c.requires.fresh c.requires.missed c.requires.queue c.requires.node in
    on_from c.event.result c.event.ensures (λ h. tells_missed g.T.Tells.hears c.args.book.now c.length-number.result c.args.action.now (reason_of c.args.reason) _ _ count missed h)
