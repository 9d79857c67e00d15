use Rattle.ioa_show.specs.States.{states_text}
use Rattle.ioa_show.proofs.states.put_all.Goals as goal

pub returns-clause-beginning : goal.returns-clause-beginning
unfolding states_text
returns-clause-beginning g c =
    rw (← c.requires, ← c.names-names.ensures, ← c.invariants-invariants.ensures, ← c.ran_out-is_short.ensures) c.put_states.ensures.beginning

pub returns-clause-whole : goal.returns-clause-whole
unfolding states_text
returns-clause-whole g c =
    rw (← c.requires, ← c.names-names.ensures, ← c.invariants-invariants.ensures, ← c.ran_out-is_short.ensures) c.put_states.ensures.whole
