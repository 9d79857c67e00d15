use Rattle.std.proofs.Common.{◌++◌, ◌∷◌, [], List, sym, ap, subst, refl, ◌∙◌, arith}
use Rattle.ioa_actions.specs.ActionParts.{node_of}
use Rattle.ioa_receipts.specs.Receipts.{PlainReceipts}
use Rattle.ioa_receipts.specs.declared.receipts.Receipt.{Receipt}
use Rattle.ioa_passes.specs.Passes.{PlainPass}
use Rattle.ioa_transitions.specs.Entries.{PlainEntry}
use Rattle.ioa_turns.specs.NodeTurns.{PlainProgress, progress_of}
use Rattle.ioa_solo.specs.Solo.{course_of}
use Rattle.ioa_solo.specs.Told.{IsUpTo}
use Rattle.ioa_solo.proofs.Gains.{gained_at_none, gained_at_one}
use Rattle.ioa_solo.proofs.GoesOn.{goes_by_commit, goes_nowhere}
use Rattle.ioa_solo.proofs.ToldFires.{missed_comes, taken_comes}
use Rattle.ioa_solo.proofs.SomeVisits.{missed_commit, taken_commit}
use Rattle.ioa_solo.proofs.firing.commit_tested.Goals as goal

pub returns-in_err-block-clause-goes : goal.returns-in_err-block-clause-goes
returns-in_err-block-clause-goes g c = λ t p. goes_nowhere _ _ _ _ _ refl c.block_for.ensures.kept t.not_ahead

pub returns-in-Ok-clause-gained : goal.returns-in-Ok-clause-gained
returns-in-Ok-clause-gained g c =
    gained_at_one _ _ _ _ _ c.in-Ok.receipt (omega (arith, c.in-Ok.ensures.share))
    (c.put.ensures
    ∙ ap (λ (r : PlainReceipts). r.all ++ c.in-Ok.receipt ∷ []) c.in-Ok.ensures.receipts
    ∙ ap (λ (l : List Receipt). l ++ c.in-Ok.receipt ∷ []) c.block_for.ensures.kept)
    (ap (λ (e : PlainEntry). node_of e.action) c.in-Ok.ensures.entry ∙ c.requires.own)

pub returns-in-Ok-clause-goes : goal.returns-in-Ok-clause-goes
returns-in-Ok-clause-goes g c = λ t p.
    goes_by_commit _ _ _ c.args.proposal _ _ c.in-Ok.receipt _ _ t.not_ahead p (c.in-Ok.ensures.taken t.told)
    (c.put.ensures
    ∙ ap (λ (r : PlainReceipts). r.all ++ c.in-Ok.receipt ∷ []) c.in-Ok.ensures.receipts
    ∙ ap (λ (l : List Receipt). l ++ c.in-Ok.receipt ∷ []) c.block_for.ensures.kept)

pub returns-in-Ok-clause-fired : goal.returns-in-Ok-clause-fired
returns-in-Ok-clause-fired g c = λ t p.
    taken_comes _ (progress_of c.args.node.now) c.args.proposal p _ _ _ _ _ (c.in-Ok.ensures.taken t.told)
    ∙ ap (λ (q : PlainProgress). (course_of (g.B.Board.tells c.attempt.new.board), q)) (sym c.pass.ensures.past)

pub returns-in-Err-clause-gained : goal.returns-in-Err-clause-gained
returns-in-Err-clause-gained g c =
    gained_at_none _ 1 0 _ _ _ _ (omega arith) (omega (arith, c.in-Err.ensures.share))
    (ap (λ (r : PlainReceipts). r.all) c.in-Err.ensures.receipts ∙ c.block_for.ensures.kept)

pub returns-in-Err-clause-goes : goal.returns-in-Err-clause-goes
returns-in-Err-clause-goes g c = λ t p.
    let none = missed_comes _ (progress_of c.args.node.now) c.args.proposal p _ _ _ _ t.not_ahead (c.in-Err.ensures.missed t.told) in
    goes_nowhere _ _ _ _ _ none.0 (ap (λ (r : PlainReceipts). r.all) c.in-Err.ensures.receipts ∙ c.block_for.ensures.kept)
    (subst (λ (q : PlainPass). IsUpTo (g.B.Board.tells c.args.board.now) q) (sym none.1) t.not_ahead)

pub returns-in-Err-clause-fired : goal.returns-in-Err-clause-fired
returns-in-Err-clause-fired g c = λ t p.
    let none = missed_comes _ (progress_of c.args.node.now) c.args.proposal p _ _ _ _ t.not_ahead (c.in-Err.ensures.missed t.told) in
    none.2 ∙ (λ j. (course_of (sym none.0 j), sym c.after_miss.ensures.missed j))

pub returns-in-Ok-clause-committed : goal.returns-in-Ok-clause-committed
returns-in-Ok-clause-committed g c = taken_commit _ _ _ _ c.in-Ok.ensures.takes c.pass.ensures.past

pub returns-in-Err-clause-committed : goal.returns-in-Err-clause-committed
returns-in-Err-clause-committed g c = missed_commit _ _ _ _ _ c.in-Err.ensures.misses c.after_miss.ensures.missed
