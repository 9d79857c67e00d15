use Rattle.ioa_show.specs.Steps.{steps_text}
use Rattle.ioa_show.proofs.steps.put_all.Goals as goal

pub returns-clause-beginning : goal.returns-clause-beginning
unfolding steps_text
returns-clause-beginning g c =
    rw (← c.requires, ← c.names-names.ensures, ← c.invariants-invariants.ensures) c.put_lines.ensures.beginning
