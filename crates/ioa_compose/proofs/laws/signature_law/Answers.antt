use Rattle.ioa_compose.proofs.Components.{takes_part-is}
use Rattle.ioa_compose.proofs.Signatures.{has_own_node, has_messages, has_stimuli}
use Rattle.ioa_compose.proofs.laws.signature_law.Goals as goal

pub returns : goal.returns
returns c = record { participants = takes_part-is; nodes = has_own_node; channels = has_messages; scripts = has_stimuli }
