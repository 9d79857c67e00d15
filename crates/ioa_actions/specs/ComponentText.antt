-- Components as text (profile): `node i`, `channel i -> j` and `script i`.
use Rattle.std.specs.Prelude.{ℕ, List, ◌++◌, codes}
use Rattle.std.specs.Fmt.{signed_decimal}
use Rattle.ioa_actions.specs.declared.component.Component.{Component}
use Rattle.ioa_actions.specs.declared.component.Component.TheVariants.{Node, Channel, Script}

-- a component: its kind, and its node or the nodes of its two ends
abbrev pub component_text : Component → List ℕ
component_text (Node i) = codes "node " ++ signed_decimal i
component_text (Channel i j) = codes "channel " ++ (signed_decimal i ++ (codes " -> " ++ signed_decimal j))
component_text (Script i) = codes "script " ++ signed_decimal i
