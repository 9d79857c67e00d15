-- Whether two actions are the same, and how actions are ordered (profile).
use Rattle.std.specs.Prelude.{ℕ, Bool, false, ◌&&◌, nat_eq}
use Rattle.std.specs.declared.cmp.Ordering.{Ordering}
use Rattle.std.specs.Ordering.{nat_cmp, int_cmp, int_eq, ordering_then}
use Rattle.std.specs.Cmp.Lexicographic.{slice_cmp}
use lib.Pointwise.{pointwise}
use Rattle.ioa_values.specs.DataOrder.{same, data_cmp}
use Rattle.ioa_actions.specs.ValuesOrder.{all_same, list_cmp}
use Rattle.ioa_actions.specs.declared.action.NodeAction.{NodeAction}
use Rattle.ioa_actions.specs.declared.action.Action.{Action}
use Rattle.ioa_actions.specs.declared.action.Action.TheVariants.{Send, Receive, Local, Stimulus}

-- two actions of nodes are the same if their nodes, names and arguments are
abbrev pub same_node_action : NodeAction → NodeAction → Bool
same_node_action a b = int_eq a.node b.node && (pointwise nat_eq a.name b.name && all_same a.arguments b.arguments)

-- two actions are the same if their kinds and parts are
abbrev pub same_action : Action → Action → Bool
same_action (Send m i j) (Send n k l) = same m n && (int_eq i k && int_eq j l)
same_action (Receive m i j) (Receive n k l) = same m n && (int_eq i k && int_eq j l)
same_action (Local a) (Local b) = same_node_action a b
same_action (Stimulus a) (Stimulus b) = same_node_action a b
same_action a b = false

-- how two actions of nodes compare: the first of node, name and arguments that differs decides; names compare byte by
-- byte
abbrev pub node_action_cmp : NodeAction → NodeAction → Ordering
node_action_cmp a b =
    ordering_then (int_cmp a.node b.node)
    (ordering_then (slice_cmp nat_cmp a.name b.name) (list_cmp a.arguments b.arguments))

-- the position of an action's kind among the kinds: sends, receives, local actions and stimuli
abbrev pub action_kind : Action → ℕ
action_kind (Send m i j) = 0
action_kind (Receive m i j) = 1
action_kind (Local a) = 2
action_kind (Stimulus a) = 3

-- how two actions compare: those of one kind by the first part that differs, message, sender and receiver; those of
-- two kinds by their kinds
abbrev pub action_cmp : Action → Action → Ordering
action_cmp (Send m i j) (Send n k l) = ordering_then (data_cmp m n) (ordering_then (int_cmp i k) (int_cmp j l))
action_cmp (Receive m i j) (Receive n k l) = ordering_then (data_cmp m n) (ordering_then (int_cmp i k) (int_cmp j l))
action_cmp (Local a) (Local b) = node_action_cmp a b
action_cmp (Stimulus a) (Stimulus b) = node_action_cmp a b
action_cmp a b = nat_cmp (action_kind a) (action_kind b)
