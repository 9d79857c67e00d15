use Rattle.ioa_compose.specs.Participants.{participants_of}
use Rattle.ioa_core.proofs.PastBooks.{refusal_then}
use Rattle.ioa_core.proofs.laws.old_look_law.Goals as goal

pub returns : goal.returns
returns c = λ b n a leads there. refusal_then b n leads (participants_of a) there
