use Rattle.std.proofs.Common.{Some, sym, ap, ◌∙◌}
use Rattle.ioa_tell.proofs.Taking.{tells_taken}
use Rattle.ioa_tell.proofs.Tellings.{on_from}
use Rattle.ioa_tell.proofs.steps.take_proposed.Goals as goal

pub returns : goal.returns
returns g c =
    let found = c.in_ok-before.ensures ∙ ap Some (sym c.conf.ensures) in
    on_from c.tell_taken.result c.tell_taken.ensures (λ h. tells_taken g.T.Tells.hears c.args.book.now c.commit.new.book c.args.look.now c.refresh.new.look c.args.entry.now c.args.proposal c.conf.result.now c.length-number.result _ _
    c.requires.fresh c.requires.proposed c.requires.same found c.in_ok-commit.ensures c.in_ok-refresh.ensures c.length-number.ensures h)
