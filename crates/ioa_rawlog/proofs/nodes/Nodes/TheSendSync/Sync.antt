use denote.RattleType.{RattleType}
use denote.Param.Send.{IsSync}
use Rattle.core.specs.declared.alloc.Allocator.{Ghosts}
use Rattle.ioa_rawlog.specs.contracts.nodes.Nodes.{the_row}
use Rattle.ioa_rawlog.proofs.Crosses.{nodes_sync}

pub sync : (T A : RattleType) (g : Ghosts A.Denot) → IsSync T → IsSync (the_row T A g)
sync = nodes_sync
