-- Values and actions may go to another thread, and be looked at by several.
use denote.Param.Send.{IsSend, IsSync, sendable}
use Rattle.std.proofs.Crossing.{crosses}
use Rattle.std.proofs.alloc.Global.TheSendSync as Global
use Rattle.std.proofs.option.Option.TheSendSync as Option
use Rattle.std.proofs.rt.Memory.TheSendSync as Memory
use Rattle.std.proofs.string.String.TheSendSync as String
use Rattle.std.proofs.sync.Arc.TheSendSync as Arc
use Rattle.std.proofs.vec.Vec.TheSendSync as Vec
use Rattle.ioa_values.proofs.item_kind.ItemKind.TheSendSync as ItemKind
use Rattle.ioa_values.proofs.entry_tree.EntryTree.TheLaws.TheKnot as knot
use Rattle.ioa_values.specs.contracts.value.Value as Value
use Rattle.ioa_values.specs.contracts.word.Word as Word
use Rattle.ioa_actions.specs.contracts.action.Values as Values
use Rattle.ioa_actions.specs.contracts.action.NodeAction as NodeAction
use Rattle.ioa_actions.specs.contracts.action.Action as Action

pub ruleset owners = (
  Memory.the_field_send,
  Memory.the_send,
  Memory.the_field_sync,
  Memory.the_sync,
  Arc.the_send,
  Arc.the_sync,
  String.the_field_send,
  String.the_send,
  String.the_field_sync,
  String.the_sync,
  Vec.the_send,
  Vec.the_sync,
  Global.the_field_send,
  Global.the_send,
  Global.the_field_sync,
  Global.the_sync,
)

pub value_send : IsSend (Value.the_field).row
value_send = search (ItemKind.the_field_send, ItemKind.the_field_sync, Option.the_field_send, Option.the_field_sync, crosses, knot.crosses, sendable) depth 60 fits 20000

pub value_sync : IsSync (Value.the_field).row
value_sync = search (ItemKind.the_field_send, ItemKind.the_field_sync, Option.the_field_send, Option.the_field_sync, crosses, knot.crosses, sendable) depth 60 fits 20000

pub word_send : IsSend (Word.the_field).row
word_send = search (owners, crosses, sendable) depth 60 fits 20000

pub word_sync : IsSync (Word.the_field).row
word_sync = search (owners, crosses, sendable) depth 60 fits 20000

pub values_send : IsSend (Values.the_field).row
values_send = search (value_send, crosses, sendable) depth 60 fits 20000

pub values_sync : IsSync (Values.the_field).row
values_sync = search (value_sync, crosses, sendable) depth 60 fits 20000

pub node_action_send : IsSend (NodeAction.the_field).row
node_action_send = search (word_send, values_send, sendable) depth 60 fits 20000

pub node_action_sync : IsSync (NodeAction.the_field).row
node_action_sync = search (word_sync, values_sync, sendable) depth 60 fits 20000

pub action_send : IsSend (Action.the_field).row
action_send = search (value_send, node_action_send, sendable) depth 60 fits 20000

pub action_sync : IsSync (Action.the_field).row
action_sync = search (value_sync, node_action_sync, sendable) depth 60 fits 20000
