use Rattle.std.proofs.Common.{◌∙◌, ◌==◌, false, true, length, refl, rules}
use Rattle.ioa_starts.proofs.Starts.{same_stimuli_by}
use Rattle.ioa_starts.proofs.starting.has_stimuli.Goals as goal

-- the stimuli are the same, so the messages decide
pub returns-then-eq : goal.returns-then-eq
returns-then-eq c =
    same_stimuli_by c.args.queue.now.items c.items.result.0.now c.args.stimuli.now c.items.result.1.now true c.is_empty.result
    c.items.ensures (search rules) c.is_empty.ensures

-- the stimuli differ
pub returns-else-eq : goal.returns-else-eq
returns-else-eq c =
    c.if-eq.false
    ∙ same_stimuli_by c.args.queue.now.items c.items.result.0.now c.args.stimuli.now c.items.result.1.now
    false (length c.items.result.1.now == 0) c.items.ensures (search rules) refl
