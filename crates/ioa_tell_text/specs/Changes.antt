-- What an action changed, as text (form).
use Rattle.std.specs.Prelude.{ℕ, ℤ, Bool, true, false, List, [], ◌∷◌, ◌++◌, Option, Some, None, codes, length}
use Rattle.std.specs.Fmt.{decimal, signed_decimal}
use Rattle.ioa_values.specs.Data.{Data}
use Rattle.ioa_values.specs.DataOrder.{same}
use Rattle.ioa_values.specs.Text.{text}
use Rattle.ioa_actions.specs.declared.component.Component.{Component}
use Rattle.ioa_actions.specs.declared.component.Component.TheVariants as component
use Rattle.ioa_compose.specs.declared.configuration.Conf.{Conf}
use Rattle.ioa_compose.specs.declared.configuration.Conf.TheVariants.{Node, Queue}
use Rattle.ioa_source.specs.Sides.{CheckedVariable}

-- the name of a component
abbrev pub component_text : Component → List ℕ
component_text (component.Node i) = codes "node " ++ signed_decimal i
component_text (component.Channel i j) =
    codes "channel " ++ (signed_decimal i ++ (codes " -> " ++ signed_decimal j))
component_text (component.Script i) = codes "script " ++ signed_decimal i

-- what stands in front of a change of a node: what separates it from the one before it, or else the node
abbrev pub lead_text : Bool → ℤ → List ℕ
lead_text true i = codes "; "
lead_text false i = codes "   node " ++ (signed_decimal i ++ codes ": ")

-- `x = v -> w`
abbrev pub change_text : List (List ℕ) → List ℕ → Data → Data → List ℕ
change_text names x v w = x ++ (codes " = " ++ (text names v ++ (codes " -> " ++ text names w)))

-- the same with what stands in front of it, unless the two values are the same
abbrev pub change_unless : Bool → List (List ℕ) → ℤ → Bool → List ℕ → Data → Data → List ℕ
change_unless true names i written x v w = []
change_unless false names i written x v w = lead_text written i ++ change_text names x v w

-- whether a change is written, if this one is not of two values that are the same
abbrev pub written_then : Bool → Bool → Bool
written_then true written = written
written_then false written = true

-- the changes of a node's variables with these values before and after it, in the order of their declaration, behind
-- others if there are such
abbrev pub changes_behind : List (List ℕ) → ℤ → Bool → List Data → List Data → List CheckedVariable → List ℕ
changes_behind names i written [] ws xs = []
changes_behind names i written (v ∷ vs) [] xs = []
changes_behind names i written (v ∷ vs) (w ∷ ws) [] = []
changes_behind names i written (v ∷ vs) (w ∷ ws) (x ∷ xs) =
    change_unless (same v w) names i written x.declared.name v w
    ++ changes_behind names i (written_then (same v w) written) vs ws xs

-- whether there is a change among them, or in front of them
abbrev pub has_written : Bool → List Data → List Data → List CheckedVariable → Bool
has_written written [] ws xs = written
has_written written (v ∷ vs) [] xs = written
has_written written (v ∷ vs) (w ∷ ws) [] = written
has_written written (v ∷ vs) (w ∷ ws) (x ∷ xs) = has_written (written_then (same v w) written) vs ws xs

-- the changes of a node
abbrev pub node_text : List (List ℕ) → Conf → Conf → List ℕ
node_text names (Node c) (Node d) =
    changes_behind names d.program.node false c.variables d.variables d.program.automaton.variables
node_text names b a = []

-- whether there are any
abbrev pub has_changed : Conf → Conf → Bool
has_changed (Node c) (Node d) = has_written false c.variables d.variables d.program.automaton.variables
has_changed b a = false

-- what stands in front of a queue: what separates it from the changes of the node, if there are such
abbrev pub mark_text : Bool → List ℕ
mark_text true = codes "; "
mark_text false = codes "   "

-- how many items a queue has
abbrev pub holds_text : Bool → Conf → List ℕ
holds_text written (Node c) = []
holds_text written (Queue q) =
    mark_text written ++ (component_text q.component ++ (codes " holds " ++ decimal (length q.items)))

-- the same of the queue that took part, if one did
abbrev pub queue_text : Bool → Option Conf → List ℕ
queue_text written None = []
queue_text written (Some c) = holds_text written c

-- what an action changed: `   node i: x = v -> w; y = v -> w; channel i -> j holds n`, each part if there is such
abbrev pub changes_text : List (List ℕ) → Conf → Conf → Option Conf → List ℕ
changes_text names before after queue = node_text names before after ++ queue_text (has_changed before after) queue
