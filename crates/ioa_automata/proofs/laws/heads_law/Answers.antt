use Rattle.ioa_automata.proofs.Heads.{repeats_iff, named_iff}
use Rattle.ioa_automata.proofs.laws.heads_law.Goals as goal

pub returns : goal.returns
returns c = record { repeats = repeats_iff; named = named_iff }
