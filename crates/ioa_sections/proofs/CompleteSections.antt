-- What a system section describes is found.
use Rattle.std.proofs.Common.{◌≡◌, ◌≤◌, ℕ, List, [], refl, ap, subst, length}
use Rattle.std.specs.List.{AllByRecursion, IsDistinct}
use Rattle.ioa_terms.specs.Sorted.{NameShapes}
use Rattle.ioa_source.specs.Sides.{SourcePlacement}
use Rattle.ioa_source.specs.declared.declaration.Channel.{Channel}
use Rattle.ioa_system.specs.Declarations.{same_channel}
use Rattle.ioa_system.specs.Parts.{AutomatonParts, Parts}
use Rattle.ioa_system.specs.Systems.{ScriptParts}
use Rattle.ioa_automata.proofs.Results.{result_is}
use Rattle.ioa_sections.specs.declared.nodes.TheConstants.{MOST_NODES}
use Rattle.ioa_sections.specs.declared.channels.TheConstants.{MOST_CHANNELS}
use Rattle.ioa_sections.specs.Sections.{nodes_in, channels_in}
use Rattle.ioa_sections.specs.Nodes.{nodes_or, nodes_at, programs_at, programs_from, same_number}
use Rattle.ioa_sections.specs.Channels.{channels_or, channels_at, all_channels_at}
use Rattle.ioa_sections.specs.Placing.{placed, placed_at}
use Rattle.ioa_sections.specs.Meant.{IsChannelOf}
use Rattle.ioa_sections.proofs.CompleteNodes.{passes, nodes_found}
use Rattle.ioa_sections.proofs.CompleteChannels.{channels_found}
use Rattle.ioa_sections.proofs.CompleteScripts.{scripts_found}
use Rattle.ioa_sections.proofs.SoundSections.{IsSectionOf}
use Rattle.ioa_sections.proofs.Tests.{few_found, differ_anew}

-- the nodes and the channels of a system section
listed_nodes : (ps : List SourcePlacement) → length (nodes_in ps) ≤ MOST_NODES → IsDistinct same_number (nodes_in ps) → result_is (nodes_in ps) ≡ nodes_at ps
unfolding nodes_or
listed_nodes ps few differ = rw (← few_found MOST_NODES (nodes_in ps) few, differ_anew same_number [] (nodes_in ps) differ) refl

listed_channels : (ps : List SourcePlacement) → length (channels_in ps) ≤ MOST_CHANNELS → IsDistinct same_channel (channels_in ps) → result_is (channels_in ps) ≡ channels_at ps
unfolding channels_or
listed_channels ps few differ = rw (← few_found MOST_CHANNELS (channels_in ps) few, differ_anew same_channel [] (channels_in ps) differ) refl

module _ (names : NameShapes) (automata : List AutomatonParts) (ps : List SourcePlacement) (qs : List Parts) (cs : List Channel) (xs : List ScriptParts) (h : IsSectionOf names automata ps (placed qs cs xs)) where
  programs_found : result_is qs ≡ programs_at names automata (nodes_in ps)
  programs_found =
      subst (λ (n : ℕ). result_is qs ≡ programs_from names automata (nodes_in ps) 0 n) h.many (nodes_found names automata (nodes_in ps) 0 qs h.nodes)

  joined_found : passes ≡ all_channels_at qs (channels_in ps)
  joined_found = channels_found qs (channels_in ps) (subst (AllByRecursion (IsChannelOf qs)) h.channels h.joined)

  pub section_found : result_is (placed qs cs xs) ≡ placed_at names automata ps
  unfolding placed_at
  section_found =
      rw (← listed_nodes ps h.few_nodes h.nodes_differ, ← listed_channels ps h.few_channels h.channels_differ, ← programs_found, ← joined_found, ← scripts_found names qs ps xs h.scripts.differ h.scripts.made)
      (ap (λ (ds : List Channel). result_is (placed qs ds xs)) h.channels)
