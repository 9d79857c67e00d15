use Rattle.std.proofs.Common.{◌≡◌, ◌∷◌, ◌+◌, ◌++◌, ap, arith, length, refl, ◌∙◌}
use Rattle.std.specs.Prelude.{codes}
use Rattle.ioa_actions.specs.ActionText.{entry_text}
use Rattle.ioa_paper.specs.Papers.{and_text}
use Rattle.ioa_show.specs.Judged.{marks_at}
use Rattle.ioa_show.specs.States.{later_states, state_text}
use Rattle.ioa_show.proofs.Beginnings.{begins_here, if_failed}
use Rattle.ioa_show.proofs.Passing.{steps_end, steps_off, steps_on}
use Rattle.ioa_show.proofs.states.put_later.Goals as goal

pub loop-entry-init : goal.loop-entry-init
loop-entry-init g c =
    let whole : c.into_iter-entry-iterator.result ≡ c.args.schedule.now = c.into_iter-entry-iterator.ensures.into_iter_gives ∙ c.walk-entry-items.ensures.rest in
    record {
      counted = rw whole (omega arith);
      due = rw whole refl;
      part = (refl, refl);
    }

pub loop-entry-preserved : goal.loop-entry-preserved
loop-entry-preserved g c =
    let split : c.loop-entry.entry-iterator ≡ c.in-Some.entry.now ∷ c.next.new.self = c.in-Some.ensures.steps in
    record {
      counted = omega (arith, ap length split, c.loop-entry.invariant.counted);
      due = steps_on c.args.names.now (marks_at c.args.invariants.now c.args.verdicts.now) c.loop-entry.passed c.in-Some.entry.now c.loop-entry.entry-iterator c.next.new.self
          c.loop-entry.course c.put_step.new.course c.loop-entry.paper c.put_step.new.paper
          (and_text c.args.paper.now (later_states c.args.names.now (marks_at c.args.invariants.now c.args.verdicts.now) 0 c.args.schedule.now c.args.course.now))
          c.in_ok-put_step.field-0 c.loop-entry.invariant.due split c.if-not-branch.false c.in_ok-put_step.ensures.step;
      part = (c.put_step.ensures.part.0 ∙ c.loop-entry.invariant.part.0, c.put_step.ensures.part.1 ∙ c.loop-entry.invariant.part.1);
    }

pub returns-clause-whole : goal.returns-clause-whole
returns-clause-whole g c =
    steps_end c.args.names.now (marks_at c.args.invariants.now c.args.verdicts.now) c.loop-entry.passed c.loop-entry.entry-iterator c.loop-entry.course c.loop-entry.paper
    (and_text c.args.paper.now (later_states c.args.names.now (marks_at c.args.invariants.now c.args.verdicts.now) 0 c.args.schedule.now c.args.course.now))
    c.loop-entry.invariant.due c.in-None.ensures.steps.0

pub returns-then-not-branch-clause-whole : goal.returns-then-not-branch-clause-whole
returns-then-not-branch-clause-whole g c =
    let split : c.loop-entry.entry-iterator ≡ c.in-Some.entry.now ∷ c.next.new.self = c.in-Some.ensures.steps in
    steps_off c.args.names.now (marks_at c.args.invariants.now c.args.verdicts.now) c.loop-entry.passed c.in-Some.entry.now c.loop-entry.entry-iterator c.next.new.self
    c.loop-entry.course c.put_step.new.course c.loop-entry.paper c.put_step.new.paper
    (and_text c.args.paper.now (later_states c.args.names.now (marks_at c.args.invariants.now c.args.verdicts.now) 0 c.args.schedule.now c.args.course.now))
    (codes ",\n" ++ state_text c.args.names.now (c.loop-entry.passed + 1) (marks_at c.args.invariants.now c.args.verdicts.now (c.loop-entry.passed + 1)) (entry_text c.args.names.now c.in-Some.entry.now.action c.in-Some.entry.now.chosen) c.put_step.new.course)
    c.in_ok-put_step.field-0 c.loop-entry.invariant.due split c.if-not-branch.true c.in_ok-put_step.ensures.step

pub returns-in_err-put_step-clause-beginning : goal.returns-in_err-put_step-clause-beginning
returns-in_err-put_step-clause-beginning g c =
    if_failed c.from_residual.result (
    begins_here (later_states c.args.names.now (marks_at c.args.invariants.now c.args.verdicts.now) 0 c.args.schedule.now c.args.course.now)
    (later_states c.args.names.now (marks_at c.args.invariants.now c.args.verdicts.now) c.loop-entry.passed c.loop-entry.entry-iterator c.loop-entry.course)
    c.args.paper.now c.loop-entry.paper c.put_step.new.paper c.loop-entry.invariant.due c.in_err-put_step.ensures.nothing)
