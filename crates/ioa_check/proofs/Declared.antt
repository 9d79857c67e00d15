-- The system of a text declares each thing once.
use Rattle.std.proofs.Common.{List, sym, subst}
use Rattle.std.specs.List.{IsDistinct}
use Rattle.ioa_source.specs.declared.declaration.Channel.{Channel}
use Rattle.ioa_source.specs.Sides.{SourceText}
use Rattle.ioa_system.specs.Declarations.{IsWellDeclared, same_channel}
use Rattle.ioa_system.specs.Systems.{SystemParts}
use Rattle.ioa_sections.specs.Sections.{automata_in, nodes_in, scripts_in}
use Rattle.ioa_sections.proofs.DeclaredOnce.{all_made, nodes_differ, programs_once, scripts_differ, scripts_of_nodes}
use Rattle.ioa_check.specs.Systems.{IsSystemOf}

-- the system declares each thing once
pub declared_once : (x : SourceText) (s : SystemParts) → IsSystemOf x s → IsWellDeclared s
declared_once x s h = record {
  nodes = nodes_differ h.types.constants h.automata (nodes_in x.system) 0 s.programs h.nodes;
  channels = subst (λ (cs : List Channel). IsDistinct same_channel cs) (sym h.channels) h.channels_differ;
  scripts = scripts_differ h.types.constants s.programs (scripts_in x.system) s.scripts h.scripts h.scripts_differ;
  of_nodes = scripts_of_nodes h.types.constants s.programs (scripts_in x.system) s.scripts h.scripts;
  programs = programs_once h.types h.types.constants h.automata (nodes_in x.system) 0 s.programs (all_made h.types (automata_in x.declarations) h.automata h.made) h.nodes;
}
