-- Queues that the test finds the same are equal.
use Rattle.std.proofs.Common.{◌≡◌, ◌∙◌, Bool, ◌&&◌, List, [], ◌∷◌, map, refl, sym, ap, rules}
use Rattle.std.specs.Bool.{Decides}
use Rattle.std.proofs.lemmas.Bool.Decides.{Decides-and, Decides-like}
use Rattle.std.proofs.lemmas.Slice.Eq.{slice_eq-Decides}
use Rattle.std.proofs.Math.Bool.{and_assoc}
use lib.Pointwise.{pointwise}
use Rattle.ioa_values.specs.Data.{Data}
use Rattle.ioa_values.specs.DataOrder.{same}
use Rattle.ioa_actions.specs.Actions.{same_node_action}
use Rattle.ioa_actions.specs.declared.action.NodeAction.{NodeAction}
use Rattle.ioa_actions.proofs.SameComponents.{Decides-same_component}
use Rattle.ioa_channels.specs.declared.queue.Item.TheVariants.{Message}
use Rattle.ioa_channels.specs.Queues.{QueueState, queue_items, same_item}
use Rattle.ioa_channels.specs.SameItems.{same_item_is}
use Rattle.ioa_channels.specs.SameQueues.{same_channel_kind, same_queue}
use denote.Enum.Bare.{same_true, true_same}
use Rattle.ioa_actions.specs.contracts.component.ChannelKind as kind
use Rattle.ioa_actions.specs.declared.component.ChannelKind.{ChannelKind}

kind_is : (a b : ChannelKind) → Decides (same_channel_kind a b) (a ≡ b)
kind_is a b = (same_true kind.the_type (search rules) a b, true_same kind.the_type a b)

-- the test finds two queues the same if and only if they are equal
pub same_queue_is : (q r : QueueState) → Decides (same_queue q r) (q ≡ r)
same_queue_is q r =
    Decides-like _ (λ p i. record { component = p.0 i; kind = p.1.0 i; items = p.1.1 i })
    (λ e.
    (ap (λ (s : QueueState). s.component) e, (ap (λ (s : QueueState). s.kind) e, ap (λ (s : QueueState). s.items) e)))
    (Decides-and _ _ (Decides-same_component q.component r.component)
    (Decides-and _ _ (kind_is q.kind r.kind) (slice_eq-Decides same_item_is q.items r.items _ refl)))

-- messages are the same as items if they are the same as values
same_messages : (ms ns : List Data) → pointwise same_item (map Message ms) (map Message ns) ≡ pointwise same ms ns
same_messages [] [] = refl
same_messages [] (n ∷ ns) = refl
same_messages (m ∷ ms) [] = refl
same_messages (m ∷ ms) (n ∷ ns) = ap (λ (t : Bool). same m n && t) (same_messages ms ns)

-- the items of two queues are the same if their stimuli and their messages are
pub same_parts : (s t : List NodeAction) (ms ns : List Data) →
    pointwise same_item (queue_items s ms) (queue_items t ns) ≡ (pointwise same_node_action s t && pointwise same ms ns)
same_parts [] [] ms ns = same_messages ms ns
same_parts [] (b ∷ t) [] ns = refl
same_parts [] (b ∷ t) (m ∷ ms) ns = refl
same_parts (a ∷ s) [] ms [] = refl
same_parts (a ∷ s) [] ms (n ∷ ns) = refl
same_parts (a ∷ s) (b ∷ t) ms ns =
    ap (λ (x : Bool). same_node_action a b && x) (same_parts s t ms ns)
    ∙ sym (and_assoc (same_node_action a b) (pointwise same_node_action s t) (pointwise same ms ns))
