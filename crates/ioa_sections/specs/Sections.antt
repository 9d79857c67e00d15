-- The parts of a text: its automata, and the nodes, channels and scripts of its system section (profile).
use Rattle.std.specs.Borrow.{Bor}
use Rattle.std.specs.Prelude.{List, [], ◌∷◌, ◌++◌}
use Rattle.ioa_source.specs.TextView.{node_of, script_of}
use Rattle.ioa_source.specs.declared.declaration.Node.{Node}
use Rattle.ioa_source.specs.declared.declaration.ScriptDeclaration.{ScriptDeclaration}
use Rattle.ioa_source.specs.PlainText as plain
use Rattle.ioa_source.specs.declared.declaration.Channel.{Channel}
use Rattle.ioa_source.specs.Sides.{SourceAutomaton, SourceDeclaration, SourceNode, SourcePlacement, SourceScript}

-- the automaton that a declaration declares, if it declares one
abbrev pub automaton_in : SourceDeclaration → List SourceAutomaton
automaton_in (plain.type_named t) = []
automaton_in (plain.automaton a) = a ∷ []

-- the automata among declarations, in their order
abbrev pub automata_in : List SourceDeclaration → List SourceAutomaton
automata_in [] = []
automata_in (d ∷ more) = automaton_in d ++ automata_in more

-- the node of an item of the system section, if it is one
abbrev pub node_in : SourcePlacement → List SourceNode
node_in (plain.node n) = n ∷ []
node_in (plain.channel c) = []
node_in (plain.script s) = []

-- the nodes of a system section, as declared
abbrev pub nodes_in : List SourcePlacement → List SourceNode
nodes_in [] = []
nodes_in (p ∷ more) = node_in p ++ nodes_in more

-- the channel of an item of the system section, if it is one
abbrev pub channel_in : SourcePlacement → List Channel
channel_in (plain.node n) = []
channel_in (plain.channel c) = c ∷ []
channel_in (plain.script s) = []

-- the channels of a system section, as declared
abbrev pub channels_in : List SourcePlacement → List Channel
channels_in [] = []
channels_in (p ∷ more) = channel_in p ++ channels_in more

-- the script of an item of the system section, if it is one
abbrev pub script_in : SourcePlacement → List SourceScript
script_in (plain.node n) = []
script_in (plain.channel c) = []
script_in (plain.script s) = s ∷ []

-- the scripts of a system section, as declared
abbrev pub scripts_in : List SourcePlacement → List SourceScript
scripts_in [] = []
scripts_in (p ∷ more) = script_in p ++ scripts_in more

-- the node behind a reference
abbrev pub node_at : Bor (Node (Unit {0}) (Unit {0}) (Unit {0})) → SourceNode
node_at n = node_of n.now

-- the script behind a reference
abbrev pub script_behind : Bor (ScriptDeclaration (Unit {0}) (Unit {0}) (Unit {0})) → SourceScript
script_behind s = script_of s.now
