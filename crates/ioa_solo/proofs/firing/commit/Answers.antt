use Rattle.std.proofs.Common.{◌≡◌, ◌++◌, ◌∷◌, [], List, Some, sym, ap, ◌∙◌}
use Rattle.ioa_actions.specs.ActionParts.{node_of}
use Rattle.ioa_receipts.specs.declared.receipts.Receipt.{Receipt}
use Rattle.ioa_transitions.specs.Entries.{PlainEntry}
use Rattle.ioa_turns.specs.NodeTurns.{PlainProgress, progress_of}
use Rattle.ioa_solo.specs.Fires.{IsProposedIn}
use Rattle.ioa_solo.specs.Solo.{course_of}
use Rattle.ioa_solo.specs.Told.{IsToldTo}
use Rattle.ioa_solo.proofs.Gains.{gained_at_one}
use Rattle.ioa_solo.proofs.GoesOn.{goes_by_commit}
use Rattle.ioa_solo.proofs.ToldFires.{taken_comes}
use Rattle.ioa_solo.proofs.SomeVisits.{offered_commit, taken_commit, takes}
use Rattle.ioa_solo.proofs.firing.commit.Goals as goal

pub returns-in-Some-clause-gained : goal.returns-in-Some-clause-gained
returns-in-Some-clause-gained g c =
    gained_at_one _ _ _ _ _ c.in-Some.taken.receipt c.in-Some.ensures.share
    (c.put.ensures ∙ ap (λ (l : List Receipt). l ++ c.in-Some.taken.receipt ∷ []) c.make_ready.ensures.kept)
    (ap (λ (e : PlainEntry). node_of e.action) c.in-Some.ensures.taken.taken.commit.entry ∙ c.requires.own)

pub commit_tested-requires-clause-own : goal.commit_tested-requires-clause-own
commit_tested-requires-clause-own g c =
    let kept = c.attempt_quickly.ensures.kept c.in-None.is in
    let offered : c.args.proposal ≡ c.in-Some-offer.proposal = let both : Some c.args.proposal ≡ Some c.in-Some-offer.proposal = sym kept.0 ∙ c.in-Some-offer.is in cc in
    rw (← offered) c.requires.own

pub returns-in-Some-clause-goes : goal.returns-in-Some-clause-goes
returns-in-Some-clause-goes g c = λ t p.
    goes_by_commit _ _ _ c.args.proposal _ _ c.in-Some.taken.receipt _ _ t.not_ahead p (c.in-Some.ensures.told_taken t.told)
    (c.put.ensures ∙ ap (λ (l : List Receipt). l ++ c.in-Some.taken.receipt ∷ []) c.make_ready.ensures.kept)

pub returns-in-Some-clause-fired : goal.returns-in-Some-clause-fired
returns-in-Some-clause-fired g c = λ t p.
    taken_comes _ (progress_of c.args.node.now) c.args.proposal p _ _ _ _ _ (c.in-Some.ensures.told_taken t.told)
    ∙ ap (λ (q : PlainProgress). (course_of (g.B.Board.tells c.attempt_quickly.new.self), q)) (sym c.pass.ensures.past)

pub returns-in-Some-offer-clause-goes : goal.returns-in-Some-offer-clause-goes
returns-in-Some-offer-clause-goes g c = λ t p.
    let same = c.attempt_quickly.ensures.told_kept t.told c.in-None.is in
    let kept = c.attempt_quickly.ensures.kept c.in-None.is in
    let offered : c.args.proposal ≡ c.in-Some-offer.proposal = let both : Some c.args.proposal ≡ Some c.in-Some-offer.proposal = sym kept.0 ∙ c.in-Some-offer.is in cc in
    let told : IsToldTo g.B.Board.told (g.B.Board.tells c.attempt_quickly.new.self) c.attempt_quickly.new.pass = rw (same, kept.1) t in
    let proposed : IsProposedIn (g.B.Board.tells c.attempt_quickly.new.self) c.args.node.now.program.now.node c.in-Some-offer.proposal = rw (same, ← offered) p in
    rw (← same, ← c.make_ready.ensures.kept) (c.commit_tested.ensures.goes told proposed)

pub returns-in-Some-offer-clause-fired : goal.returns-in-Some-offer-clause-fired
returns-in-Some-offer-clause-fired g c = λ t p.
    let same = c.attempt_quickly.ensures.told_kept t.told c.in-None.is in
    let kept = c.attempt_quickly.ensures.kept c.in-None.is in
    let offered : c.args.proposal ≡ c.in-Some-offer.proposal = let both : Some c.args.proposal ≡ Some c.in-Some-offer.proposal = sym kept.0 ∙ c.in-Some-offer.is in cc in
    let told : IsToldTo g.B.Board.told (g.B.Board.tells c.attempt_quickly.new.self) c.attempt_quickly.new.pass = rw (same, kept.1) t in
    let proposed : IsProposedIn (g.B.Board.tells c.attempt_quickly.new.self) c.args.node.now.program.now.node c.in-Some-offer.proposal = rw (same, ← offered) p in
    rw (← same, offered) (c.commit_tested.ensures.fired told proposed)

pub returns-in-Some-clause-committed : goal.returns-in-Some-clause-committed
returns-in-Some-clause-committed g c = taken_commit _ _ _ _ (takes _ _ _ _ _ _ c.in-Some.ensures.taken) c.pass.ensures.past

pub returns-in-Some-offer-clause-committed : goal.returns-in-Some-offer-clause-committed
returns-in-Some-offer-clause-committed g c =
    let kept = c.attempt_quickly.ensures.kept c.in-None.is in
    let offered : c.args.proposal ≡ c.in-Some-offer.proposal = let both : Some c.args.proposal ≡ Some c.in-Some-offer.proposal = sym kept.0 ∙ c.in-Some-offer.is in cc in
    offered_commit c.commit_tested.result g.B.Board.opened c.args.proposal c.in-Some-offer.proposal (progress_of c.args.node.now) (progress_of c.commit_tested.new.node) offered c.commit_tested.ensures.committed
