-- Actions that the test finds the same are equal.
use Rattle.std.proofs.Common.{◌≡◌, ℤ, List, refl, ap}
use Rattle.std.specs.Prelude.{◌↔◌, IsTrue, ◌&&◌}
use Rattle.std.specs.Ordering.{int_eq}
use Rattle.std.specs.Bool.{Decides}
use Rattle.std.proofs.lemmas.Bool.Decides.{Decides-int_eq, Decides-and, Decides-like}
use Rattle.std.proofs.lemmas.Slice.Eq.{slice_eq-Decides, bytes_eq-Decides}
use Rattle.ioa_values.proofs.Equality.{same_equal, same_itself}
use Rattle.ioa_values.specs.Data.{Data}
use Rattle.ioa_values.specs.DataOrder.{same}
use Rattle.ioa_actions.specs.ValuesOrder.{all_same}
use Rattle.ioa_actions.specs.Actions.{same_node_action, same_action}
use Rattle.ioa_actions.specs.declared.action.NodeAction.{NodeAction}
use Rattle.ioa_actions.specs.declared.action.Action.{Action}
use Rattle.ioa_actions.specs.declared.action.Action.TheVariants.{Send, Receive, Local, Stimulus}

Decides-same : (a b : Data) → Decides (same a b) (a ≡ b)
Decides-same a b = (same_equal a b, λ e. rw (← e) (same_itself a))

-- the test finds two lists of values the same if and only if they are equal
Decides-all_same : (vs ws : List Data) → Decides (all_same vs ws) (vs ≡ ws)
Decides-all_same vs ws = slice_eq-Decides Decides-same vs ws _ refl

Decides-node : (a b : NodeAction) → Decides (same_node_action a b) (a ≡ b)
Decides-node a b =
    Decides-like _ (λ p. λ i. record { node = p.0 i; name = p.1.0 i; arguments = p.1.1 i })
    (λ e. (ap (λ (c : NodeAction). c.node) e, (ap (λ (c : NodeAction). c.name) e, ap (λ (c : NodeAction). c.arguments) e)))
    (Decides-and _ _ (Decides-int_eq a.node b.node)
    (Decides-and _ _ (bytes_eq-Decides a.name b.name) (Decides-all_same a.arguments b.arguments)))

-- the test finds two actions of nodes the same if and only if they are equal
pub same_node_action_is : (a b : NodeAction) → IsTrue (same_node_action a b) ↔ (a ≡ b)
same_node_action_is = Decides-node

-- the same of the parts of a message
parts_same : (m n : Data) (i j k l : ℤ) → Decides (same m n && (int_eq i k && int_eq j l)) ((m ≡ n) × ((i ≡ k) × (j ≡ l)))
parts_same m n i j k l = Decides-and _ _ (Decides-same m n) (Decides-and _ _ (Decides-int_eq i k) (Decides-int_eq j l))

-- the test finds two actions the same if and only if they are equal
pub same_action_is : (a b : Action) → IsTrue (same_action a b) ↔ (a ≡ b)
same_action_is (Send m i j) (Send n k l) =
    let d = parts_same m n i j k l in
    (λ h. let p = d.0 h in λ t. Send (p.0 t) (p.1.0 t) (p.1.1 t), λ e. let p : m ≡ n = cc in let q : i ≡ k = cc in let r : j ≡ l = cc in d.1 (p, (q, r)))
same_action_is (Receive m i j) (Receive n k l) =
    let d = parts_same m n i j k l in
    (λ h. let p = d.0 h in λ t. Receive (p.0 t) (p.1.0 t) (p.1.1 t), λ e. let p : m ≡ n = cc in let q : i ≡ k = cc in let r : j ≡ l = cc in d.1 (p, (q, r)))
same_action_is (Local a) (Local b) = (λ h. ap Local ((Decides-node a b).0 h), λ e. let k : a ≡ b = cc in (Decides-node a b).1 k)
same_action_is (Stimulus a) (Stimulus b) = (λ h. ap Stimulus ((Decides-node a b).0 h), λ e. let k : a ≡ b = cc in (Decides-node a b).1 k)
same_action_is a b = (λ h. absurd (cc), λ e. absurd (cc))
