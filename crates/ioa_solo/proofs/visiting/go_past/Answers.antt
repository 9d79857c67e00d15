use Rattle.std.proofs.Common.{refl, sym, ap, subst, ◌∙◌, arith}
use Rattle.std.specs.Prelude.{OnOk}
use Rattle.ioa_actions.specs.declared.action.Action.{Action}
use Rattle.ioa_terms.specs.View.{firing_of}
use Rattle.ioa_turns.specs.NodeTurns.{PlainProgress, arguments_in, kept_in, progress_of}
use Rattle.ioa_solo.proofs.SettledNodes.{fire_settled}
use Rattle.ioa_solo.specs.Fires.{IsAfterFire, IsProposedIn, failed_by}
use Rattle.ioa_solo.specs.Solo.{course_of}
use Rattle.ioa_solo.proofs.FreshFires.{proposed_node}
use Rattle.ioa_solo.proofs.Gains.{gained_at_within}
use Rattle.ioa_solo.proofs.GoesOn.{goes_nowhere}
use Rattle.ioa_solo.proofs.ToldFires.{failed_comes, on_both, proposed_for, proposed_in}
use Rattle.ioa_solo.proofs.SomeVisits.{failed_on, proposed_on}
use Rattle.ioa_solo.proofs.visiting.go_past.Goals as goal

pub returns-in_err-fired-clause-goes : goal.returns-in_err-fired-clause-goes
returns-in_err-fired-clause-goes g c = λ t fresh. goes_nowhere _ _ _ _ _ refl refl t.not_ahead

pub commit-requires-clause-own : goal.commit-requires-clause-own
commit-requires-clause-own g c =
    proposed_node c.in_ok-fired.fired.action c.args.snapshot.now c.in-Ok.proposal c.in-Ok.ensures
    ∙ c.requires.own
    ∙ ap (λ (p : PlainProgress). p.program.node) (sym c.action_fired.ensures.unchanged)

pub returns-in-Ok-clause-gained : goal.returns-in-Ok-clause-gained
returns-in-Ok-clause-gained g c =
    gained_at_within _ _ 1 0 1 0 _ _ _ _ (omega arith) (ap (λ (p : PlainProgress). p.program.node) c.action_fired.ensures.unchanged) c.commit.ensures.gained

pub returns-in-Ok-clause-goes : goal.returns-in-Ok-clause-goes
returns-in-Ok-clause-goes g c = λ t fresh.
    let b = g.B.Board.tells c.args.board.now in
    let x = c.in-Ok.proposal in
    c.commit.ensures.goes t
    (subst (λ (q : PlainProgress). IsProposedIn b q.program.node x) (sym c.action_fired.ensures.unchanged) (proposed_in b (progress_of c.args.node.now).program.node c.in_ok-fired.fired.action c.args.snapshot.now fresh x c.in-Ok.ensures))

pub returns-in-Ok-clause-passed : goal.returns-in-Ok-clause-passed
returns-in-Ok-clause-passed g c = λ t fresh.
    let b = g.B.Board.tells c.args.board.now in
    let new = g.B.Board.tells c.commit.new.board in
    let q = progress_of c.commit.new.node in
    let x = c.in-Ok.proposal in
    let told = c.commit.ensures.fired t (subst (λ (q : PlainProgress). IsProposedIn b q.program.node x) (sym c.action_fired.ensures.unchanged) (proposed_in b (progress_of c.args.node.now).program.node c.in_ok-fired.fired.action c.args.snapshot.now fresh x c.in-Ok.ensures)) in
    subst (λ (a : Action). OnOk c.commit.result (IsAfterFire b (progress_of c.args.node.now) a new q)) (proposed_for b (progress_of c.args.node.now).program.node c.in_ok-fired.fired.action c.args.snapshot.now fresh x c.in-Ok.ensures ∙ c.in_ok-fired.ensures.action)
    (subst (λ (p : PlainProgress). OnOk c.commit.result (IsAfterFire b p x.entry.action new q)) c.action_fired.ensures.unchanged told)

pub returns-in-Err-clause-passed : goal.returns-in-Err-clause-passed
returns-in-Err-clause-passed g c = λ t fresh.
    let b = g.B.Board.tells c.args.board.now in
    let p = progress_of c.args.node.now in
    let f = c.in-Err.fault in
    on_both c.after_fault.result
    (λ failed real.
    subst (λ (a : Action). IsAfterFire b p a b (progress_of c.after_fault.new.node)) c.in_ok-fired.ensures.action
    (failed_comes b p c.in_ok-fired.fired.action c.args.snapshot.now f fresh real c.in-Err.ensures
    ∙ ap (λ (r : PlainProgress). (course_of b, r)) (sym (failed ∙ ap (λ (r : PlainProgress). failed_by f r) c.action_fired.ensures.unchanged))))
    c.after_fault.ensures.failed c.after_fault.ensures.real

pub returns-in-Err-clause-settled : goal.returns-in-Err-clause-settled
returns-in-Err-clause-settled g c =
    let p = progress_of c.args.node.now in
    let fired = firing_of c.args.firing.now in
    fire_settled c.after_fault.result (kept_in c.args.node.now) (kept_in c.action_fired.new.self) c.args.snapshot.now p (progress_of c.action_fired.new.self) (progress_of c.after_fault.new.node)
    fired.kind fired.action (arguments_in c.args.node.now) c.in_ok-fired.fired.action c.in-Err.fault
    c.requires.turned c.action_fired.ensures.unchanged c.action_fired.ensures.kept c.in_ok-fired.ensures.action c.in-Err.ensures c.after_fault.ensures.failed c.after_fault.ensures.back

pub returns-in-Ok-clause-proposed : goal.returns-in-Ok-clause-proposed
returns-in-Ok-clause-proposed g c =
    proposed_on g.B.Board.opened c.args.snapshot.now c.in_ok-fired.fired.action _ c.in_ok-fired.ensures.action
    (progress_of c.args.node.now) (progress_of c.action_fired.new.self) (progress_of c.commit.new.node) c.action_fired.ensures.unchanged
    c.commit.result c.in-Ok.proposal c.in-Ok.ensures c.commit.ensures.committed

pub returns-in-Err-clause-proposed : goal.returns-in-Err-clause-proposed
returns-in-Err-clause-proposed g c =
    failed_on g.B.Board.opened c.args.snapshot.now c.in_ok-fired.fired.action _ c.in_ok-fired.ensures.action
    (progress_of c.args.node.now) (progress_of c.action_fired.new.self) (progress_of c.after_fault.new.node) c.action_fired.ensures.unchanged
    c.after_fault.result c.in-Err.fault c.in-Err.ensures c.after_fault.ensures.failed c.after_fault.ensures.real
