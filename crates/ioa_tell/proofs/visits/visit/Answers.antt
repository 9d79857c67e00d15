use Rattle.std.proofs.Common.{arith, refl}
use Rattle.ioa_turns.specs.NodeTurns.{progress_of}
use Rattle.ioa_tell.proofs.Attempted.{tried_once, tried_spent}
use Rattle.ioa_tell.proofs.visits.visit.Goals as goal

pub returns-then-node-eq0 : goal.returns-then-node-eq0
returns-then-node-eq0 g c = tried_spent g.T.Tells.hears c.args.book.now _ _ (progress_of c.args.node.now) _ (omega (arith, c.if-node-eq0.true)) refl

pub returns : goal.returns
returns g c =
    tried_once g.T.Tells.hears c.attempt.result c.args.book.now c.attempt.new.book _ _ _ _ (progress_of c.args.node.now) _ (progress_of c.attempt.new.node) (λ none. omega (arith, c.if-node-eq0.false, none)) refl c.attempt.ensures
