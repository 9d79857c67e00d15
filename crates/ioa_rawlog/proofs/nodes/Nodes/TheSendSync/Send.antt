use denote.RattleType.{RattleType}
use denote.Param.Send.{IsSend, Frees}
use Rattle.core.specs.declared.alloc.Allocator.{Ghosts}
use Rattle.ioa_rawlog.specs.contracts.nodes.Nodes.{the_row}
use Rattle.ioa_rawlog.proofs.Crosses.{nodes_send}

pub send : (T A : RattleType) (g : Ghosts A.Denot) → IsSend T → IsSend A → Frees g g.dealloc_token → IsSend (the_row T A g)
send = nodes_send
