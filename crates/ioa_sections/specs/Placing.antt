-- What a system section places (profile).
use Rattle.std.specs.Prelude.{List, Result, Ok}
use Rattle.ioa_values.specs.Outcome.{and_then}
use Rattle.ioa_terms.specs.Sorted.{NameShapes}
use Rattle.ioa_source.specs.Sides.{SourcePlacement}
use Rattle.ioa_source.specs.declared.declaration.Channel.{Channel}
use Rattle.ioa_system.specs.Parts.{AutomatonParts, Parts}
use Rattle.ioa_system.specs.Systems.{ScriptParts}
use Rattle.ioa_refusals.specs.declared.refusal.Refusal.{Refusal}
use Rattle.ioa_sections.specs.Nodes.{nodes_at, programs_at}
use Rattle.ioa_sections.specs.Channels.{channels_at, all_channels_at}
use Rattle.ioa_sections.specs.Scripts.{scripts_at}

-- what a system section places: the programs of its nodes, node 0 first, its channels and its scripts
pub record PlacedParts : Type 0 where
  pub programs : List Parts
  pub channels : List Channel
  pub scripts : List ScriptParts

abbrev pub placed : List Parts → List Channel → List ScriptParts → PlacedParts
placed ps cs xs = record { programs = ps; channels = cs; scripts = xs }

-- what a system section places, in a text of these constants and automata
unfoldable pub placed_at : NameShapes → List AutomatonParts → List SourcePlacement → Result PlacedParts Refusal
placed_at names automata ps = and_then (nodes_at ps)
    (λ ns. and_then (channels_at ps)
    (λ cs. and_then (programs_at names automata ns)
    (λ qs. and_then (all_channels_at qs cs)
    (λ x. and_then (scripts_at names qs ps) (λ xs. Ok (placed qs cs xs))))))
