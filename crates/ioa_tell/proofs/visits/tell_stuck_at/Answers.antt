use Rattle.std.proofs.Common.{ap, rules, sym, subst, ◌∙◌}
use Rattle.ioa_book.specs.Looks.{PlainSnapshot}
use Rattle.ioa_commits.specs.Versions.{read_confs}
use Rattle.ioa_turns.specs.NodeTurns.{progress_of}
use Rattle.ioa_reasons.specs.FoundFaults.{fault_found}
use Rattle.ioa_reasons.specs.PlainReasons.{PlainFault, fault_of, statement_place_of}
use Rattle.ioa_reasons.specs.Stuck.{IsStuckOn, IsStuckTold}
use Rattle.ioa_tell.proofs.Tellings.{on_from, tells_stuck}
use Rattle.ioa_tell.proofs.visits.tell_stuck_at.Goals as goal

pub returns : goal.returns
returns g c =
    let count = c.length.ensures ∙ ap (λ (s : PlainSnapshot). s.length) c.requires.fresh in
    let book = c.args.book.now in
    let look = c.args.look.now in
    let found = c.args.found.now in
    let program = (progress_of c.args.node.now).program in
    let place = statement_place_of found.place in
    let fault = fault_found found.fault in
    let seen = subst (λ (s : PlainSnapshot). IsStuckOn program (read_confs s.reads) place fault) c.requires.fresh c.requires.found in
    let there : IsStuckTold look.node book.start book.log place fault = record { program = program; own = c.requires.own; stuck = seen } in
    let lent = subst (λ (f : PlainFault). IsStuckTold look.node book.start book.log place f) (sym c.told.ensures) there in
    on_from c.event.result c.event.ensures (λ h. tells_stuck g.T.Tells.hears book c.length.result _ place (fault_of c.told.result) _ _ count h look.node lent (search rules))
