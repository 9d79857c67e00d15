use Rattle.std.proofs.Common.{ap}
use Rattle.ioa_transitions.specs.Entries.{PlainEntry}
use Rattle.ioa_turns.specs.NodeTurns.{progress_of}
use Rattle.ioa_tell.proofs.Attempted.{fire_over, fire_taken}
use Rattle.ioa_tell.proofs.Tellings.{on_map}
use Rattle.ioa_tell.proofs.visits.fire.Goals as goal

pub returns-in_ok-take-in-Some : goal.returns-in_ok-take-in-Some
returns-in_ok-take-in-Some g c =
    fire_taken g.T.Tells.hears c.args.book.now c.take.new.book c.in-Some.entry.now _ _ _ _ c.args.look.now (progress_of c.args.node.now) _ c.args.proposal.entry.action c.in-Some.ensures.steps
    c.in_ok-take-in-Some.ensures.told (ap (λ (f : PlainEntry). f.action) c.in_ok-take-in-Some.ensures.same) c.pass.ensures.past

pub returns-in-None : goal.returns-in-None
returns-in-None g c =
    on_map c.end_full.result
    (λ ended. fire_over g.T.Tells.hears c.args.book.now _ _ _ c.args.look.now (progress_of c.args.node.now) _ c.args.proposal c.requires.proposed
    c.in-None.ensures.steps.0 c.in-None.ensures.steps.1 ended) c.end_full.ensures
