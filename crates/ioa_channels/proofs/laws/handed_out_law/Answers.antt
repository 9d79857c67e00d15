use Rattle.ioa_channels.proofs.HandedOut.{nothing_yet, receive_step, send_step, no_more_often}
use Rattle.ioa_channels.proofs.laws.handed_out_law.Goals as goal

pub returns : goal.returns
returns c = record { nothing = nothing_yet; receive = receive_step; send = send_step; no_more_often = no_more_often }
