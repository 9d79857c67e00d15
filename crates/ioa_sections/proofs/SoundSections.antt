-- What is placed is what a system section describes.
use Rattle.std.proofs.Common.{◌≡◌, ◌≤◌, List, sym, ap, subst, ◌∙◌, length}
use Rattle.std.specs.List.{AllByRecursion, IsDistinct}
use Rattle.ioa_values.specs.Outcome.{and_then}
use Rattle.ioa_terms.specs.Sorted.{NameShapes}
use Rattle.ioa_source.specs.Sides.{SourceNode, SourcePlacement}
use Rattle.ioa_source.specs.declared.declaration.Channel.{Channel}
use Rattle.ioa_system.specs.Declarations.{same_channel}
use Rattle.ioa_system.specs.Parts.{AutomatonParts, Parts}
use Rattle.ioa_system.specs.Systems.{ScriptParts}
use Rattle.ioa_automata.proofs.Results.{result_is}
use Rattle.ioa_sections.specs.declared.nodes.TheConstants.{MOST_NODES}
use Rattle.ioa_sections.specs.declared.channels.TheConstants.{MOST_CHANNELS}
use Rattle.ioa_sections.specs.Sections.{nodes_in, channels_in}
use Rattle.ioa_sections.specs.Grounds.{AreGrounded, AreGroundedPrograms}
use Rattle.ioa_sections.specs.Nodes.{nodes_at, programs_at, same_number}
use Rattle.ioa_sections.specs.Channels.{channels_at, all_channels_at}
use Rattle.ioa_sections.specs.Scripts.{scripts_at}
use Rattle.ioa_sections.specs.Placing.{PlacedParts, placed, placed_at}
use Rattle.ioa_sections.specs.Meant.{AreNodesOf, IsChannelOf}
use Rattle.ioa_sections.proofs.Results.{first_of, result_same}
use Rattle.ioa_sections.proofs.Grounds.{programs_grounded}
use Rattle.ioa_sections.proofs.SoundNodes.{AreNodesIn, nodes_sound, programs_sound}
use Rattle.ioa_sections.proofs.SoundChannels.{AreChannelsIn, channels_sound, joined_sound}
use Rattle.ioa_sections.proofs.SoundScripts.{AreScriptsIn, scripts_sound}

-- a system section
pub record IsSectionOf (names : NameShapes) (automata : List AutomatonParts) (ps : List SourcePlacement) (s : PlacedParts) : Type 0 where
  pub few_nodes : length (nodes_in ps) ≤ MOST_NODES
  pub few_channels : length (channels_in ps) ≤ MOST_CHANNELS
  pub nodes_differ : IsDistinct same_number (nodes_in ps)
  pub channels_differ : IsDistinct same_channel (channels_in ps)
  pub nodes : AreNodesOf names automata (nodes_in ps) 0 s.programs
  pub many : length s.programs ≡ length (nodes_in ps)
  pub channels : s.channels ≡ channels_in ps
  pub joined : AllByRecursion (IsChannelOf s.programs) s.channels
  pub scripts : AreScriptsIn names s.programs ps s.scripts

-- its parts together
section_made : (names : NameShapes) (automata : List AutomatonParts) (ps : List SourcePlacement) (ns : List SourceNode) (cs : List Channel) (qs : List Parts) (xs : List ScriptParts) → AreNodesIn ps ns → AreChannelsIn ps cs → AreNodesOf names automata ns 0 qs × (length qs ≡ length ns) → AllByRecursion (IsChannelOf qs) cs → AreScriptsIn names qs ps xs → IsSectionOf names automata ps (placed qs cs xs)
section_made names automata ps ns cs qs xs nodes channels programs joined scripts = record {
  few_nodes = nodes.few;
  few_channels = channels.few;
  nodes_differ = nodes.differ;
  channels_differ = channels.differ;
  nodes = subst (λ ms. AreNodesOf names automata ms 0 qs) (sym nodes.same) programs.0;
  many = programs.1 ∙ ap length (sym nodes.same);
  channels = sym channels.same;
  joined = joined;
  scripts = scripts;
}

pub section_sound : (names : NameShapes) (automata : List AutomatonParts) → AreGrounded names automata → (ps : List SourcePlacement) (s : PlacedParts) → placed_at names automata ps ≡ result_is s → IsSectionOf names automata ps s
unfolding placed_at
section_sound names automata ground ps s h =
    let with_scripts = λ (qs : List Parts) (cs : List Channel). and_then (scripts_at names qs ps) (λ xs. result_is (placed qs cs xs)) in
    let joined = λ (qs : List Parts) (cs : List Channel). and_then (all_channels_at qs cs) (λ x. with_scripts qs cs) in
    let one = first_of (nodes_at ps) (λ ns. and_then (channels_at ps) (λ cs. and_then (programs_at names automata ns) (λ qs. joined qs cs))) s h in
    let two = first_of (channels_at ps) (λ cs. and_then (programs_at names automata one.0) (λ qs. joined qs cs)) s one.2 in
    let three = first_of (programs_at names automata one.0) (λ qs. joined qs two.0) s two.2 in
    let four = first_of (all_channels_at three.0 two.0) (λ x. with_scripts three.0 two.0) s three.2 in
    let five = first_of (scripts_at names three.0 ps) (λ xs. result_is (placed three.0 two.0 xs)) s four.2 in
    let nodes = programs_sound names automata one.0 ground (length one.0) 0 three.0 three.1 in
    let scripts = scripts_sound names three.0 (programs_grounded names automata one.0 ground 0 three.0 nodes.0) ps five.0 five.1 in
    let made = section_made names automata ps one.0 two.0 three.0 five.0 (nodes_sound ps one.0 one.1) (channels_sound ps two.0 two.1) nodes (joined_sound three.0 two.0 four.0 four.1) scripts in
    subst (IsSectionOf names automata ps) {x = placed three.0 two.0 five.0} (result_same (placed three.0 two.0 five.0) s five.2) made

-- the programs of a section have declared shapes
pub section_grounded : (names : NameShapes) (automata : List AutomatonParts) → AreGrounded names automata → (ps : List SourcePlacement) (s : PlacedParts) → placed_at names automata ps ≡ result_is s → AreGroundedPrograms names s.programs
section_grounded names automata ground ps s h =
    let section = section_sound names automata ground ps s h in
    programs_grounded names automata (nodes_in ps) ground 0 s.programs section.nodes
