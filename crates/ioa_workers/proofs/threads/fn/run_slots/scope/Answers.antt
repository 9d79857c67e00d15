use denote.RattleType.{RattleType}
use denote.Param.Send.{IsSend, param_send, sendable}
use Rattle.std.specs.declared.sync.ledger.Ledger as Ledger
use Rattle.std.proofs.Crossing.{crosses}
use Rattle.std.proofs.alloc.Global.TheSendSync as Global
use Rattle.ioa_crossing.proofs.Actions.{owners}
use Rattle.ioa_crossing.proofs.Books.{lent_send, numbered_send, pass_send, receipts_send, share_send}
use Rattle.ioa_sharing.specs.declared.named.Origin as Origin
use Rattle.ioa_solo.specs.contracts.hand.Hand as Hand
use Rattle.ioa_workers.specs.contracts.slot.Slot as Slot
use Rattle.ioa_workers.proofs.threads.fn.run_slots.scope.Goals as goal
use Rattle.ioa_workers.proofs.threads.fn.run_slots.scope.Lts as thread

-- a worker's hand, and its slot, may go to a thread
hand_send : (L : RattleType) (h : Ledger.Ghosts L.Denot) → IsSend (Hand.the_field L h).row
hand_send L h = search (pass_send, receipts_send, share_send, crosses, sendable) depth 60 fits 20000

slot_send : (O L : RattleType) (g : Origin.Ghosts O.Denot) (h : Ledger.Ghosts L.Denot) → IsSend (Slot.the_row O L g h)
slot_send O L g h = search (hand_send, numbered_send, owners, crosses, sendable) depth 60 fits 20000

-- a thread has a slot of its own, and may be lent the book under its lock. The type of what it runs is named, since
-- `search` does not determine it.
pub spawn_scoped-requires-send-F : goal.spawn_scoped-requires-send-F
spawn_scoped-requires-send-F g c κs h =
    param_send 1
    (thread.arg-2-1 g.row.O g.row.L g.row.R g.row.G g.O.laws g.L.laws g.R.laws g.G.laws g.O.Opening g.O.Opening-dict
    g.O.Origin g.O.Origin-dict g.L.Ledger g.L.Ledger-dict g.R.Threads g.R.Threads-dict g.R.Wait g.R.Wait-dict g.G.Gate g.G.Gate-dict κs)
    (search (slot_send, lent_send 0 1 g.row.O g.row.L g.O.Opening g.O.Origin g.L.Ledger, Global.the_send, sendable) depth 60 fits 20000)
