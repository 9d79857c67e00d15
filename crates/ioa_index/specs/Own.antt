-- The components that a node has to do with (profile).
use Rattle.std.specs.Prelude.{ℕ, ℤ, suc, Bool, ◌||◌, if◌then◌else◌, List, [], ◌∷◌}
use Rattle.std.specs.Ordering.{int_eq}
use Rattle.ioa_actions.specs.declared.component.Component.{Component}
use Rattle.ioa_actions.specs.declared.component.Component.TheVariants.{Node, Channel, Script}

-- whether a node has to do with a component: itself, the channels to it and from it, and its script
abbrev pub concerns : ℤ → Component → Bool
concerns n (Node k) = int_eq k n
concerns n (Channel i j) = int_eq i n || int_eq j n
concerns n (Script k) = int_eq k n

-- the slots of the components that a node has to do with, in order, if the first of these components has this slot
abbrev pub own_slots : ℤ → ℕ → List Component → List ℕ
own_slots n slot [] = []
own_slots n slot (k ∷ more) = if concerns n k then slot ∷ own_slots n (suc slot) more else own_slots n (suc slot) more
