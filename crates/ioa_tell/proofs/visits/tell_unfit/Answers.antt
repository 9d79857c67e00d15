use Rattle.std.proofs.Common.{ap, ◌∙◌}
use Rattle.ioa_book.specs.Looks.{PlainSnapshot}
use Rattle.ioa_tell.proofs.Taking.{unfit_in}
use Rattle.ioa_tell.proofs.Tellings.{on_from, tells_unfit}
use Rattle.ioa_tell.proofs.visits.tell_unfit.Goals as goal

pub returns : goal.returns
returns g c =
    let count = c.length.ensures ∙ ap (λ (s : PlainSnapshot). s.length) c.requires.fresh in
    let found = c.args.found.now in
    let action = c.args.action.now in
    let there = unfit_in c.args.book.now action c.args.look.now found.name.now found.value c.requires.fresh c.requires.own c.requires.found in
    on_from c.event.result c.event.ensures (λ h. tells_unfit g.T.Tells.hears c.args.book.now c.length.result action found.name.now found.value _ _ count there h)
