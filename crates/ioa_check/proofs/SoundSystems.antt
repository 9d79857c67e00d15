-- The system that is made of a text is the one that the text describes.
use Rattle.std.proofs.Common.{◌≡◌, ◌+◌, ℕ, List, [], refl, sym, subst, length}
use Rattle.std.specs.List.{AllZip}
use Rattle.ioa_values.specs.Outcome.{and_then}
use Rattle.ioa_terms.specs.Sorted.{NameShapes}
use Rattle.ioa_source.specs.Sides.{SourceInvariant, SourcePlacement, SourceText}
use Rattle.ioa_source.specs.declared.declaration.Channel.{Channel}
use Rattle.ioa_system.specs.Parts.{AutomatonParts, Parts}
use Rattle.ioa_system.specs.Systems.{SystemParts, system}
use Rattle.ioa_names.specs.NameTables.{words}
use Rattle.ioa_types.specs.TextTypes.{PlainTextTypes, no_types}
use Rattle.ioa_invariants.specs.Checked.{AreDeclaredParts}
use Rattle.ioa_invariants.specs.Meant.{IsInvariantOf}
use Rattle.ioa_sections.specs.Faults.{in_declaration}
use Rattle.ioa_sections.specs.Declarations.{types_at, automata_at}
use Rattle.ioa_sections.specs.Placing.{PlacedParts, placed, placed_at}
use Rattle.ioa_sections.proofs.Results.{checked_is, first_of, within_declaration}
use Rattle.ioa_sections.proofs.Grounds.{grounded}
use Rattle.ioa_sections.proofs.SoundDeclarations.{text_types_sound, automata_sound}
use Rattle.ioa_sections.proofs.SoundSections.{IsSectionOf, section_grounded, section_sound}
use Rattle.ioa_check.specs.Checking.{parts_at, invariants_at, system_of, system_with}
use Rattle.ioa_check.specs.Systems.{IsSystemOf}
use Rattle.ioa_check.proofs.DeclaredParts.{parts_declared}
use Rattle.ioa_check.proofs.SoundInvariants.{AreInvariantsOf, invariants_sound}

-- the system of a section and of invariants
record IsWholeOf (names : NameShapes) (s : PlacedParts) (vs : List SourceInvariant) (w : SystemParts) : Type 0 where
  same_names : w.names ≡ words names
  programs : w.programs ≡ s.programs
  channels : w.channels ≡ s.channels
  scripts : w.scripts ≡ s.scripts
  invariants : AreInvariantsOf names s.programs s.channels [] vs w.invariants

whole_sound : (names : NameShapes) (s : PlacedParts) → AreDeclaredParts names s.programs → (index : ℕ) (vs : List SourceInvariant) (w : SystemParts) → system_with names s index vs ≡ checked_is w → IsWholeOf names s vs w
unfolding system_with
whole_sound names s declared index vs w h =
    let one = first_of (invariants_at names s.programs s.channels index [] vs) (λ is. checked_is (system (words names) s.programs s.channels s.scripts is)) w h in
    let same : system (words names) s.programs s.channels s.scripts one.0 ≡ w = cc in
    subst (IsWholeOf names s vs) {x = system (words names) s.programs s.channels s.scripts one.0} same (record {
      same_names = refl;
      programs = refl;
      channels = refl;
      scripts = refl;
      invariants = invariants_sound names s.programs s.channels declared index [] vs one.0 one.1;
    })

-- a section that is seen as the parts of a system
section_of : (names : NameShapes) (automata : List AutomatonParts) (ps : List SourcePlacement) (vs : List SourceInvariant) (s : PlacedParts) (w : SystemParts) → IsSectionOf names automata ps s → IsWholeOf names s vs w → IsSectionOf names automata ps (placed w.programs w.channels w.scripts)
section_of names automata ps vs s w h g =
    let same : placed w.programs w.channels w.scripts ≡ placed s.programs s.channels s.scripts = λ i. placed (g.programs i) (g.channels i) (g.scripts i) in
    subst (IsSectionOf names automata ps) (sym same) h

pub system_sound : (x : SourceText) (s : SystemParts) → system_of x ≡ checked_is s → IsSystemOf x s
unfolding system_of parts_at
system_sound x s h =
    let index = length x.declarations in
    let placing = λ (t : PlainTextTypes) (automata : List AutomatonParts). parts_at t.constants automata index x in
    let one = first_of (types_at 0 no_types x.declarations) (λ t. and_then (automata_at t 0 [] x.declarations) (λ automata. placing t automata)) s h in
    let two = first_of (automata_at one.0 0 [] x.declarations) (λ automata. placing one.0 automata) s one.2 in
    let three = first_of (in_declaration index (placed_at one.0.constants two.0 x.system)) (λ p. system_with one.0.constants p (index + 1) x.invariants) s two.2 in
    let found = within_declaration index (placed_at one.0.constants two.0 x.system) three.0 three.1 in
    let types = text_types_sound x.declarations one.0 one.1 in
    let automata = automata_sound one.0 types.1 x.declarations 0 [] two.0 two.1 in
    let ground = grounded one.0 types.1 x.declarations 0 [] two.0 two.1 in
    let whole = whole_sound one.0.constants three.0 (parts_declared one.0.constants three.0.programs (section_grounded one.0.constants two.0 ground x.system three.0 found)) (index + 1) x.invariants s three.2 in
    let same : (s.programs, s.channels) ≡ (three.0.programs, three.0.channels) = λ i. (whole.programs i, whole.channels i) in
    let section = section_of one.0.constants two.0 x.system x.invariants three.0 s (section_sound one.0.constants two.0 ground x.system three.0 found) whole in
    record {
      types = one.0;
      declared = types.0;
      names = whole.same_names;
      automata = two.0;
      made = automata.made;
      automata_differ = automata.differ;
      few_nodes = section.few_nodes;
      few_channels = section.few_channels;
      nodes_differ = section.nodes_differ;
      channels_differ = section.channels_differ;
      nodes = section.nodes;
      many = section.many;
      channels = section.channels;
      joined = section.joined;
      scripts_differ = section.scripts.differ;
      scripts = section.scripts.made;
      invariants_differ = whole.invariants.differ;
      invariants = subst (λ (z : List Parts × List Channel). AllZip (IsInvariantOf one.0.constants z.0 z.1) x.invariants s.invariants) (sym same) whole.invariants.made;
    }
