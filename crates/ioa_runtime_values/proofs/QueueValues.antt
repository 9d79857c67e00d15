-- The items of a queue whose messages are values of the runtime.
use Rattle.std.proofs.Common.{◌≡◌, ◌<◌, ◌^◌, ℕ, List, [], ◌∷◌, ◌++◌, sym, subst, length, map}
use Rattle.std.specs.List.{AllByRecursion}
use Rattle.ioa_values.specs.Data.{Data}
use Rattle.ioa_actions.specs.declared.action.NodeAction.{NodeAction}
use Rattle.ioa_channels.specs.Queues.{queue_items}
use Rattle.ioa_channels.specs.declared.queue.Item.{Item}
use Rattle.ioa_channels.specs.declared.queue.Item.TheVariants.{Message, Stimulus}
use Rattle.ioa_runtime_values.specs.RuntimeValues.{AreRuntimeValues, IsRuntimeItem, IsRuntimeQueue}

runtime_messages : (ms : List Data) → AreRuntimeValues ms → AllByRecursion IsRuntimeItem (map Message ms)
runtime_messages [] h = tt
runtime_messages (m ∷ ms) h = ((h.bounded.0, h.canonical.0), runtime_messages ms (record { bounded = h.bounded.1; canonical = h.canonical.1 }))

runtime_items : (stimuli : List NodeAction) (ms : List Data) → AreRuntimeValues ms → AllByRecursion IsRuntimeItem (queue_items stimuli ms)
runtime_items [] ms h = runtime_messages ms h
runtime_items (a ∷ stimuli) ms h = (tt, runtime_items stimuli ms h)

pub runtime_queue : (items : List Item) (stimuli : List NodeAction) (ms : List Data) → items ≡ queue_items stimuli ms → AreRuntimeValues ms → length items < 2 ^ 64 → IsRuntimeQueue items
runtime_queue items stimuli ms same h few = record { messages = subst (AllByRecursion IsRuntimeItem) (sym same) (runtime_items stimuli ms h); few = few }
