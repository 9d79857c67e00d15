use Rattle.std.proofs.Common.{ap, rules, ◌∙◌}
use Rattle.ioa_book.specs.Looks.{PlainSnapshot}
use Rattle.ioa_tell.proofs.Tellings.{on_from, tells_idle}
use Rattle.ioa_tell.proofs.visits.tell_idle.Goals as goal

pub returns : goal.returns
returns g c =
    let count = c.length.ensures ∙ ap (λ (s : PlainSnapshot). s.length) c.requires in
    on_from c.event.result c.event.ensures (λ h. tells_idle g.T.Tells.hears c.args.book.now c.length.result _ _ _ count h c.args.look.now.node (search rules))
