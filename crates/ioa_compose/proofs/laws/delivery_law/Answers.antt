use Rattle.ioa_compose.proofs.Deliveries.{hands_out_all, hands_out_from_empty, takes_in_order}
use Rattle.ioa_compose.proofs.laws.delivery_law.Goals as goal

pub returns : goal.returns
returns c = record { queued = hands_out_all; from_empty = hands_out_from_empty; scripts = takes_in_order }
