-- Whether two names are those of one component, and the order of components (profile): nodes, then channels, then
-- scripts, and those of one kind by their numbers.
use Rattle.std.specs.Prelude.{ℕ, Bool, false, ◌&&◌}
use Rattle.std.specs.declared.cmp.Ordering.{Ordering}
use Rattle.std.specs.Ordering.{nat_cmp, int_cmp, int_eq, ordering_then}
use Rattle.ioa_actions.specs.declared.component.Component.{Component}
use Rattle.ioa_actions.specs.declared.component.Component.TheVariants.{Node, Channel, Script}

-- whether two names are those of one component
abbrev pub same_component : Component → Component → Bool
same_component (Node i) (Node j) = int_eq i j
same_component (Node i) (Channel j l) = false
same_component (Node i) (Script j) = false
same_component (Channel i j) (Node l) = false
same_component (Channel i j) (Channel k l) = int_eq i k && int_eq j l
same_component (Channel i j) (Script l) = false
same_component (Script i) (Node j) = false
same_component (Script i) (Channel j l) = false
same_component (Script i) (Script j) = int_eq i j

-- the position of a component's kind among the kinds
abbrev pub component_kind : Component → ℕ
component_kind (Node i) = 0
component_kind (Channel i j) = 1
component_kind (Script i) = 2

-- how two components compare: those of one kind by their nodes, a channel's sender first; those of two kinds by their
-- kinds
abbrev pub component_cmp : Component → Component → Ordering
component_cmp (Node i) (Node k) = int_cmp i k
component_cmp (Channel i j) (Channel k l) = ordering_then (int_cmp i k) (int_cmp j l)
component_cmp (Script i) (Script k) = int_cmp i k
component_cmp a b = nat_cmp (component_kind a) (component_kind b)
