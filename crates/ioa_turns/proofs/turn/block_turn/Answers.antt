use Rattle.std.proofs.Common.{◌∙◌, ap}
use Rattle.std.specs.Option.{option_map}
use Rattle.ioa_terms.specs.Inboxes.{inboxes_of}
use Rattle.ioa_schedules.specs.Controls.{arguments_of, todo_of, values_of}
use Rattle.ioa_turns.specs.NodeTurns.{progress_of}
use Rattle.ioa_terms.specs.Views.{environment_of}
use Rattle.ioa_schedules.specs.Turns.{turn_limit}
use Rattle.ioa_turns.proofs.Numbered.{left_numbered, todo_kept}
use Rattle.ioa_turns.proofs.Ready.{Sees, ready_after, sees_named, seen_as, turn_told}
use Rattle.ioa_turns.proofs.turn.block_turn.Goals as goal

pub next-requires-clause-named : goal.next-requires-clause-named
next-requires-clause-named c =
    let seen = option_map (λ is. inboxes_of is.now) c.args.inboxes in
    let sees : Sees c.args.node.now.program.now seen c.args.conf.now.variables c.view_of-view.result = record { front = c.view_of-view.ensures.front; names = c.view_of-view.ensures.names; inboxes = ap (λ o. option_map (λ is. inboxes_of is.now) o) c.view_of-view.ensures.inboxes; first = c.view_of-view.ensures.first; second = c.view_of-view.ensures.second; constants = c.view_of-view.ensures.constants } in
    sees_named c.args.node.now.program.now seen c.args.conf.now.variables c.view_of-view.result sees (values_of c.args.node.now.control) c.args.node.now.ready.valued (seen_as (λ is. inboxes_of is.now) c.args.inboxes ∙ c.requires.seen) c.requires.valued c.view_of-view.ensures.given

pub returns-clause-turn : goal.returns-clause-turn
returns-clause-turn c =
    let seen = option_map (λ is. inboxes_of is.now) c.args.inboxes in
    let sees : Sees c.args.node.now.program.now seen c.args.conf.now.variables c.view_of-view.result = record { front = c.view_of-view.ensures.front; names = c.view_of-view.ensures.names; inboxes = ap (λ o. option_map (λ is. inboxes_of is.now) o) c.view_of-view.ensures.inboxes; first = c.view_of-view.ensures.first; second = c.view_of-view.ensures.second; constants = c.view_of-view.ensures.constants } in
    turn_told (progress_of c.args.node.now) seen c.args.conf.now.variables c.view_of-view.result sees (todo_of c.next.new.control) (values_of c.next.new.control) (arguments_of c.next.new.control) c.in_ok-turn.turn c.in_ok-turn.ensures.turn c.next.ensures.kept
    (sees_named c.args.node.now.program.now seen c.args.conf.now.variables c.view_of-view.result sees (values_of c.next.new.control) (c.next.ensures.kept ∙ c.args.node.now.ready.valued) (seen_as (λ is. inboxes_of is.now) c.args.inboxes ∙ c.requires.seen) c.requires.valued c.view_of-view.ensures.given)

pub invariant_of-node : goal.invariant_of-node
invariant_of-node c =
    let seen = option_map (λ is. inboxes_of is.now) c.args.inboxes in
    let sees : Sees c.args.node.now.program.now seen c.args.conf.now.variables c.view_of-view.result = record { front = c.view_of-view.ensures.front; names = c.view_of-view.ensures.names; inboxes = ap (λ o. option_map (λ is. inboxes_of is.now) o) c.view_of-view.ensures.inboxes; first = c.view_of-view.ensures.first; second = c.view_of-view.ensures.second; constants = c.view_of-view.ensures.constants } in
    let own = values_of c.args.node.now.control in
    let left = values_of c.next.new.control in
    record {
      ready = ready_after c.args.node.now.program.now seen c.args.conf.now.variables c.view_of-view.result sees (todo_of c.next.new.control) left c.next.ensures.resolved (c.next.ensures.kept ∙ c.args.node.now.ready.valued)
          (left_numbered c.args.node.now.program.now.automaton.rules (todo_of c.args.node.now.control) (todo_of c.next.new.control) turn_limit (environment_of c.view_of-view.result own) (environment_of c.view_of-view.result left) (arguments_of c.next.new.control) c.next.result c.next.ensures.turn (todo_kept c.next.result _ _ c.next.ensures.state) c.args.node.now.ready.numbered);
      fired = c.args.node.now.fired;
    }
