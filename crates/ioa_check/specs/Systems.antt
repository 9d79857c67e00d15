-- When a system is the one that a text describes (profile), in words that know nothing of the order of refusals. A
-- number before a field is that of the refusals of a text for which the field cannot hold.
use Rattle.std.specs.Prelude.{◌≡◌, ◌≤◌, List, length, map}
use Rattle.std.specs.List.{AllByRecursion, AllZip, IsDistinct}
use Rattle.ioa_terms.specs.Bindings.{same_word}
use Rattle.ioa_source.specs.Sides.{SourceText}
use Rattle.ioa_system.specs.Declarations.{same_channel}
use Rattle.ioa_system.specs.Parts.{AutomatonParts}
use Rattle.ioa_system.specs.Systems.{SystemParts}
use Rattle.ioa_names.specs.NameTables.{words}
use Rattle.ioa_types.specs.TextTypes.{PlainTextTypes, no_types}
use Rattle.ioa_automata.specs.SortedAutomata.{IsAutomatonOf}
use Rattle.ioa_invariants.specs.Meant.{IsInvariantOf}
use Rattle.ioa_sections.specs.declared.fault.CheckFault.{CheckFault}
use Rattle.ioa_sections.specs.declared.fault.CheckFault.TheVariants.{Refused, Memory}
use Rattle.ioa_sections.specs.declared.nodes.TheConstants.{MOST_NODES}
use Rattle.ioa_sections.specs.declared.channels.TheConstants.{MOST_CHANNELS}
use Rattle.ioa_sections.specs.Sections.{automata_in, nodes_in, channels_in, scripts_in}
use Rattle.ioa_sections.specs.Nodes.{same_number}
use Rattle.ioa_sections.specs.Scripts.{same_node}
use Rattle.ioa_sections.specs.Meant.{AreTypesOf, AreNodesOf, IsChannelOf, IsScriptOf}

-- the system of a text: one program for each of its nodes, node 0 first, its channels, its scripts and its invariants
pub record IsSystemOf (x : SourceText) (s : SystemParts) : Type 0 where
  -- 20, 21, 31: its types
  pub types : PlainTextTypes
  pub declared : AreTypesOf x.declarations no_types types
  pub names : s.names ≡ words types.constants
  -- 20 to 25, 31 to 34: its automata
  pub automata : List AutomatonParts
  pub made : AllZip (IsAutomatonOf types) (automata_in x.declarations) automata
  -- 21: whose names differ
  pub automata_differ : IsDistinct same_word (map (λ a. a.name) (automata_in x.declarations))
  -- 31: there are not too many nodes and channels
  pub few_nodes : length (nodes_in x.system) ≤ MOST_NODES
  pub few_channels : length (channels_in x.system) ≤ MOST_CHANNELS
  -- 21: the nodes' numbers differ, and the channels
  pub nodes_differ : IsDistinct same_number (nodes_in x.system)
  pub channels_differ : IsDistinct same_channel (channels_in x.system)
  -- 20, 22, 30, 32, 34: the programs of the nodes
  pub nodes : AreNodesOf types.constants automata (nodes_in x.system) 0 s.programs
  pub many : length s.programs ≡ length (nodes_in x.system)
  -- 20, 27, 28, 29: the channels
  pub channels : s.channels ≡ channels_in x.system
  pub joined : AllByRecursion (IsChannelOf s.programs) s.channels
  -- 21: the nodes of the scripts differ
  pub scripts_differ : IsDistinct same_node (scripts_in x.system)
  -- 20, 22, 32, 34: the scripts
  pub scripts : AllZip (IsScriptOf types.constants s.programs) (scripts_in x.system) s.scripts
  -- 21: the names of the invariants differ
  pub invariants_differ : IsDistinct same_word (map (λ v. v.name) x.invariants)
  -- 20, 22, 32: the invariants
  pub invariants : AllZip (IsInvariantOf types.constants s.programs s.channels) x.invariants s.invariants

-- what a fault of the check says of a text: a refusal, that no system is the text's; want of memory says nothing
abbrev pub SaysNoSystem : CheckFault → SourceText → Type 0
SaysNoSystem (Refused r index) x = (s : SystemParts) → IsSystemOf x s → ⊥
SaysNoSystem Memory x = Unit {0}
