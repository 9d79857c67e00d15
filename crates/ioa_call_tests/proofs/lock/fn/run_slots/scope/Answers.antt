use denote.RattleType.{RattleType}
use denote.Param.Send.{IsSend, sendable}
use Rattle.std.specs.declared.sync.ledger.Ledger as Ledger
use Rattle.std.proofs.Crossing.{crosses}
use Rattle.std.proofs.alloc.Global.TheSendSync as Global
use Rattle.ioa_crossing.proofs.Books.{lent_send, pass_send, receipts_send, share_send}
use Rattle.ioa_call_tests.specs.contracts.lock.Slot as Slot
use Rattle.ioa_call_tests.proofs.lock.fn.run_slots.scope.Goals as goal

-- a slot may go to a thread
slot_send : (L : RattleType) (h : Ledger.Ghosts L.Denot) → IsSend (Slot.the_field L h).row
slot_send L h = search (pass_send, receipts_send, share_send, crosses, sendable) depth 60 fits 20000

-- a thread has a slot of its own, and may be lent the book under its lock
pub spawn-requires-send-F : goal.spawn-requires-send-F
spawn-requires-send-F g c κs h =
    search (slot_send, lent_send 0 1 g.row.O g.row.L g.O.Opening g.O.Origin g.L.Ledger, Global.the_send, sendable) depth 60 fits 20000
