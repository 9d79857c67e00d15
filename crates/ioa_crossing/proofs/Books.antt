-- So may logs, books and receipts; and a book under its lock is for several threads.
use mir.Syntax.{Lifetime}
use base.Fml.{Lft}
use denote.RattleType.{RattleType}
use denote.Ref.{ShrRef}
use denote.Param.{param}
use denote.Param.Send.{IsSend, IsSync, sendable, shr_send}
use Rattle.std.specs.Prelude.{ℕ}
use Rattle.std.proofs.Crossing.{crosses}
use Rattle.ioa_shared.specs.contracts.shared.Shared as Shared
use Rattle.ioa_shared.specs.contracts.solo.Solo as Solo
use Rattle.ioa_shared.specs.declared.opening.Opening as Opening
use Rattle.ioa_held.specs.contracts.held.Held as Held
use Rattle.ioa_passes.specs.contracts.pass.Pass as Pass
use Rattle.ioa_held.specs.contracts.share.Share as Share
use Rattle.ioa_book.specs.contracts.book.Book as Book
use Rattle.std.specs.declared.sync.ledger.Ledger as Ledger
use Rattle.std.proofs.sync.ledger.Book.TheSendSync as Total
use Rattle.std.proofs.sync.ledger.Share.TheSendSync as Part
use Rattle.std.proofs.sync.Mutex.TheSendSync as Mutex
use Rattle.ioa_values.proofs.entry_tree.EntryTree.TheLaws.TheKnot as knot
use Rattle.ioa_channels.specs.contracts.queue.Queue as Queue
use Rattle.ioa_transitions.specs.contracts.entry.Entry as Entry
use Rattle.ioa_transitions.specs.contracts.node.NodeConf as NodeConf
use Rattle.ioa_compose.specs.contracts.configuration.Conf as Conf
use Rattle.ioa_sharing.specs.declared.named.Origin as Origin
use Rattle.ioa_sharing.specs.contracts.named.SharedOf as Numbered
use Rattle.ioa_sharing.proofs.named.SharedOf.TheSendSync as SharedOf
use Rattle.ioa_sharing.proofs.named.MakerOf.TheSendSync as MakerOf
use Rattle.ioa_system.specs.contracts.system.System as System
use Rattle.std.specs.contracts.alloc.Global as Global
use Rattle.std.specs.contracts.impls.GlobalAllocator.TheImpl.{ghosts}
use Rattle.ioa_receipts.specs.contracts.receipts.Receipt as Receipt
use Rattle.ioa_receipts.specs.contracts.receipts.Receipts as Receipts
use Rattle.ioa_rawlog.specs.contracts.log.RawLog as RawLog
use Rattle.ioa_rawlog.proofs.log.RawLog.TheSendSync as log
use Rattle.ioa_commits.specs.contracts.versioned.VersionedConf as VersionedConf
use Rattle.ioa_index.specs.contracts.index.Index as Index
use Rattle.ioa_commits.specs.contracts.journal.Journal as Journal
use Rattle.ioa_crossing.proofs.Actions.{owners, value_send, value_sync, node_action_send, node_action_sync, action_send, action_sync}
use Rattle.ioa_crossing.proofs.Programs.{program_send, program_sync, system_send, system_sync}

pub queue_send : IsSend (Queue.the_field).row
queue_send = search (owners, knot.crosses, node_action_send, node_action_sync, crosses, sendable) depth 60 fits 20000

pub queue_sync : IsSync (Queue.the_field).row
queue_sync = search (owners, knot.crosses, node_action_send, node_action_sync, crosses, sendable) depth 60 fits 20000

pub entry_send : IsSend (Entry.the_field).row
entry_send = search (owners, action_send, action_sync, value_send, value_sync, crosses, sendable) depth 60 fits 20000

pub entry_sync : IsSync (Entry.the_field).row
entry_sync = search (owners, action_send, action_sync, value_send, value_sync, crosses, sendable) depth 60 fits 20000

pub node_conf_send : IsSend (NodeConf.the_field).row
node_conf_send = search (program_send, program_sync, value_send, crosses, sendable) depth 60 fits 20000

pub node_conf_sync : IsSync (NodeConf.the_field).row
node_conf_sync = search (program_send, program_sync, value_sync, crosses, sendable) depth 60 fits 20000

pub conf_send : IsSend (Conf.the_field).row
conf_send = search (node_conf_send, queue_send, sendable) depth 60 fits 20000

pub conf_sync : IsSync (Conf.the_field).row
conf_sync = search (node_conf_sync, queue_sync, sendable) depth 60 fits 20000

pub log_send : IsSend (RawLog.the_field Entry.the_row).row
log_send = search (log.the_send, entry_send, crosses, sendable) depth 60 fits 20000

pub receipt_send : IsSend (Receipt.the_field).row
receipt_send = search (entry_send, crosses, sendable) depth 60 fits 20000

pub receipts_send : IsSend (Receipts.the_field).row
receipts_send = search (owners, receipt_send, crosses, sendable) depth 60 fits 20000

pub index_send : IsSend (Index.the_field).row
index_send = search (owners, crosses, sendable) depth 60 fits 20000

pub pass_send : IsSend (Pass.the_field).row
pass_send = search (owners, index_send, crosses, sendable) depth 60 fits 20000

module _ (L : RattleType) (h : Ledger.Ghosts L.Denot) where
  pub share_send : IsSend (Share.the_field L h).row
  share_send = search (Part.the_send, crosses, sendable) depth 60 fits 20000

module _ (O : RattleType) (g : Origin.Ghosts O.Denot) where
  pub versioned_send : IsSend (VersionedConf.the_field O g).row
  versioned_send = search (SharedOf.the_field_send, conf_send, conf_sync, crosses, sendable) depth 60 fits 20000

  pub numbered_send : IsSend (Numbered.the_field O System.the_row Global.the_row g ghosts).row
  numbered_send = search (SharedOf.the_field_send, system_send, system_sync, crosses, sendable) depth 60 fits 20000

  pub journal_send : IsSend (Journal.the_field O g).row
  journal_send = search (conf_send, versioned_send, index_send, log_send, MakerOf.the_field_send, crosses, sendable) depth 60 fits 20000

  pub book_send : IsSend (Book.the_field O g).row
  book_send = search (journal_send, sendable) depth 60 fits 20000

  module _ (L : RattleType) (h : Ledger.Ghosts L.Denot) where
    pub held_send : IsSend (Held.the_field O L g h).row
    held_send = search (book_send, numbered_send, Total.the_send, sendable) depth 60 fits 20000

    module _ (o : Opening.Ghosts O.Denot) where
      pub solo_send : IsSend (Solo.the_field O L o g h).row
      solo_send = search (held_send, sendable) depth 60 fits 20000

      pub shared_sync : IsSync (Shared.the_row O L o g h)
      shared_sync = search (Mutex.the_sync, solo_send, sendable) depth 60 fits 20000

-- so a thread may be lent it, in a function that has its two types as the parameters of these numbers
pub lent_send : (i j : ℕ) (O L : RattleType) (o : Opening.Ghosts O.Denot) (g : Origin.Ghosts O.Denot) (h : Ledger.Ghosts L.Denot) (ℓ : Lifetime) (κ : Lft) → IsSend (ShrRef ℓ κ (Shared.the_row (param i O) (param j L) o g h))
lent_send i j O L o g h ℓ κ = shr_send ℓ κ _ (shared_sync (param i O) g (param j L) h o)
