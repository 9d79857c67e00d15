use Rattle.std.proofs.Common.{ap, ◌∙◌}
use Rattle.ioa_source.specs.TextView.{schedule_of}
use Rattle.ioa_schedules.specs.Controls.{todo_of, values_of}
use Rattle.ioa_schedules.specs.Positions.{statements_in}
use Rattle.ioa_turns.proofs.Ready.{start_from}
use Rattle.ioa_turns.proofs.progress.Progress.start.Goals as goal

pub invariant_of-result : goal.invariant_of-result
invariant_of-result c =
    let block = c.block.ensures.valued in
    record {
      ready = start_from c.args.program.now c.automaton.result.now (schedule_of c.schedule-schedule.result.now) (todo_of c.in_ok-control.control) (values_of c.in_ok-control.control)
          c.automaton.ensures c.schedule-schedule.ensures.value (rw (c.block.ensures.value) at block) c.schedule-schedule.ensures.resolved c.schedule-schedule.ensures.numbered
          (c.in_ok-control.ensures.todo ∙ ap (λ ss. statements_in ss) c.deref.ensures.value) (c.in_ok-control.ensures.values ∙ c.block.ensures.value);
      fired = tt;
    }
