-- The test of items finds two the same exactly if they are equal (profile).
use Rattle.std.specs.Prelude.{◌≡◌, ◌↔◌, IsTrue}
use Rattle.std.proofs.Common.{ap}
use Rattle.ioa_values.proofs.Equality.{same_equal, same_itself}
use Rattle.ioa_actions.proofs.SameActions.{same_node_action_is}
use Rattle.ioa_channels.specs.declared.queue.Item.{Item}
use Rattle.ioa_channels.specs.declared.queue.Item.TheVariants.{Message, Stimulus}
use Rattle.ioa_channels.specs.Queues.{same_item}

-- the test finds two items the same if and only if they are equal
pub same_item_is : (x y : Item) → IsTrue (same_item x y) ↔ (x ≡ y)
same_item_is (Message m) (Message n) =
    (λ h. ap Message (same_equal m n h), λ e. let k : m ≡ n = cc in rw (← k) (same_itself m))
same_item_is (Message m) (Stimulus b) = (λ h. absurd (cc), λ e. absurd (cc))
same_item_is (Stimulus a) (Message n) = (λ h. absurd (cc), λ e. absurd (cc))
same_item_is (Stimulus a) (Stimulus b) = (
  λ h. ap Stimulus ((same_node_action_is a b).0 h),
  λ e. let k : a ≡ b = cc in (same_node_action_is a b).1 k,
)
