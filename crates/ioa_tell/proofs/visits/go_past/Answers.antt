use Rattle.std.proofs.Common.{arith, sym, subst, ◌∙◌}
use Rattle.ioa_schedules.specs.Turns.{IsAtFire}
use Rattle.ioa_schedules.proofs.Firsts.{firing_stands}
use Rattle.ioa_turns.specs.NodeTurns.{PlainProgress, progress_of}
use Rattle.ioa_tell.proofs.Attempted.{fire_refused, fire_same}
use Rattle.ioa_tell.proofs.Taking.{proposed_own, proposed_same}
use Rattle.ioa_tell.proofs.Tellings.{on_map}
use Rattle.ioa_tell.proofs.visits.go_past.Goals as goal

pub fire-requires : goal.fire-requires
fire-requires g c =
    let stands = subst (λ (p : PlainProgress). IsAtFire p.todo) (sym c.action_fired.ensures.unchanged) (firing_stands _ _ c.requires.stands) in
    let proposed = proposed_own c.in_ok-entry.entry.action c.args.look.now c.in-Ok.proposal c.in-Ok.ensures in
    (omega arith, (c.requires.fresh, (stands, proposed)))

pub returns-in-Ok : goal.returns-in-Ok
returns-in-Ok g c =
    let own = proposed_same c.in_ok-entry.entry.action c.args.look.now c.in-Ok.proposal c.in-Ok.ensures in
    fire_same g.T.Tells.hears c.fire.result c.args.book.now c.fire.new.book _ _ _ _ c.args.look.now (progress_of c.args.node.now) _ (progress_of c.fire.new.node) _ _
    c.action_fired.ensures.unchanged (own ∙ c.in_ok-entry.ensures.action) c.fire.ensures

pub returns : goal.returns
returns g c =
    fire_same g.T.Tells.hears c.after_fault.result c.args.book.now c.args.book.now _ _ _ _ c.args.look.now (progress_of c.args.node.now) _ (progress_of c.after_fault.new.node) _ _
    c.action_fired.ensures.unchanged (c.action.ensures ∙ c.in_ok-entry.ensures.action)
    (on_map c.after_fault.result (λ h. fire_refused g.T.Tells.hears c.args.book.now _ _ _ _ c.args.look.now _ _ _ h) c.after_fault.ensures)
