use Rattle.std.proofs.Common.{ap, sym, ◌∙◌, subst}
use Rattle.ioa_actions.specs.ActionParts.{node_of}
use Rattle.ioa_actions.specs.declared.component.Component.TheVariants.{Node}
use Rattle.ioa_book.specs.Looks.{PlainSnapshot}
use Rattle.ioa_commits.specs.Books.{states_held}
use Rattle.ioa_compose.specs.Composition.{find_conf}
use Rattle.ioa_reasons.specs.Faulted.{IsFaulted}
use Rattle.ioa_reasons.specs.FoundFaults.{fault_found}
use Rattle.ioa_reasons.specs.PlainReasons.{PlainFault, fault_of, place_of}
use Rattle.ioa_tell.proofs.Taking.{faulted_in}
use Rattle.ioa_tell.proofs.Tellings.{on_from, tells_faulted}
use Rattle.ioa_tell.proofs.visits.tell_faulted.Goals as goal

pub returns : goal.returns
returns g c =
    let count = c.length.ensures ∙ ap (λ (s : PlainSnapshot). s.length) c.requires.fresh in
    let found = c.args.found.now in
    let book = c.args.book.now in
    let action = c.args.action.now in
    let place = place_of found.place in
    let met = faulted_in book action c.args.look.now place (fault_found found.fault) c.requires.fresh c.requires.own c.requires.found in
    let lent = subst (λ (f : PlainFault). IsFaulted (find_conf (Node (node_of action)) (states_held book)) action place f) (sym c.told.ensures) met in
    on_from c.event.result c.event.ensures (λ h. tells_faulted g.T.Tells.hears book c.length.result action place (fault_of c.told.result) _ _ count lent h)
