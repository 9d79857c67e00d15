-- Each system that a text describes is found.
use Rattle.std.proofs.Common.{◌≡◌, ◌+◌, [], sym, ap, length}
use Rattle.ioa_source.specs.Sides.{SourceText}
use Rattle.ioa_system.specs.Systems.{SystemParts, system}
use Rattle.ioa_names.specs.NameTables.{words}
use Rattle.ioa_types.specs.TextTypes.{no_types}
use Rattle.ioa_sections.specs.Placing.{placed}
use Rattle.ioa_sections.proofs.Results.{checked_is}
use Rattle.ioa_sections.proofs.CompleteTypes.{types_found, automata_found}
use Rattle.ioa_sections.proofs.CompleteSections.{section_found}
use Rattle.ioa_sections.proofs.SoundSections.{IsSectionOf}
use Rattle.ioa_check.specs.Checking.{parts_at, system_of, system_with}
use Rattle.ioa_check.specs.Systems.{IsSystemOf}
use Rattle.ioa_check.proofs.CompleteInvariants.{invariants_found}

module _ (x : SourceText) (s : SystemParts) (h : IsSystemOf x s) where
  section : IsSectionOf h.types.constants h.automata x.system (placed s.programs s.channels s.scripts)
  section = record {
    few_nodes = h.few_nodes;
    few_channels = h.few_channels;
    nodes_differ = h.nodes_differ;
    channels_differ = h.channels_differ;
    nodes = h.nodes;
    many = h.many;
    channels = h.channels;
    joined = h.joined;
    scripts = record { differ = h.scripts_differ; made = h.scripts };
  }

  whole_found : checked_is s ≡ system_with h.types.constants (placed s.programs s.channels s.scripts) (length x.declarations + 1) x.invariants
  unfolding system_with
  whole_found =
      rw (← invariants_found h.types.constants s.programs s.channels (length x.declarations + 1) [] x.invariants s.invariants h.invariants h.invariants_differ) (ap checked_is rebuilt)
    where
      rebuilt : s ≡ system (words h.types.constants) s.programs s.channels s.scripts s.invariants
      rebuilt = λ i. system (h.names i) s.programs s.channels s.scripts s.invariants

  text_found : checked_is s ≡ system_of x
  unfolding system_of parts_at
  text_found =
      rw (← types_found x.declarations 0 no_types h.types h.declared, ← automata_found h.types 0 [] x.declarations h.automata h.made h.automata_differ, ← section_found h.types.constants h.automata x.system s.programs s.channels s.scripts section) whole_found

-- the system is found
pub system_found : (x : SourceText) (s : SystemParts) → IsSystemOf x s → system_of x ≡ checked_is s
system_found x s h = sym (text_found x s h)
