-- The system that a text describes, or the first refusal found (profile).
use Rattle.std.specs.Prelude.{ℕ, ◌+◌, if◌then◌else◌, List, [], ◌∷◌, ◌++◌, Result, Ok, Err, length}
use Rattle.std.specs.List.{list_any}
use Rattle.ioa_values.specs.Outcome.{and_then}
use Rattle.ioa_terms.specs.Bindings.{same_word}
use Rattle.ioa_terms.specs.Sorted.{NameShapes}
use Rattle.ioa_source.specs.Sides.{SourceInvariant, SourceText}
use Rattle.ioa_source.specs.declared.declaration.Channel.{Channel}
use Rattle.ioa_system.specs.Invariants.{InvariantParts}
use Rattle.ioa_system.specs.Parts.{AutomatonParts, Parts}
use Rattle.ioa_system.specs.Systems.{SystemParts, system}
use Rattle.ioa_refusals.specs.declared.refusal.Refusal.{Refusal}
use Rattle.ioa_refusals.specs.declared.refusal.Refusal.TheVariants.{Twice}
use Rattle.ioa_names.specs.NameTables.{words}
use Rattle.ioa_types.specs.TextTypes.{no_types}
use Rattle.ioa_invariants.specs.Checked.{invariant_at}
use Rattle.ioa_sections.specs.declared.fault.CheckFault.{CheckFault}
use Rattle.ioa_sections.specs.Faults.{in_declaration}
use Rattle.ioa_sections.specs.Declarations.{types_at, automata_at}
use Rattle.ioa_sections.specs.Placing.{PlacedParts, placed_at}

-- an invariant over what was placed, if none of these names is its name
unfoldable pub new_invariant_at : NameShapes → List Parts → List Channel → List (List ℕ) → SourceInvariant
    → Result InvariantParts Refusal
new_invariant_at constants ps cs names v =
    if list_any (same_word v.name) names then Err Twice else invariant_at constants ps cs v

-- the invariants of a text, the first of which has this index, behind invariants of these names
abbrev pub invariants_at : NameShapes → List Parts → List Channel → ℕ → List (List ℕ) → List SourceInvariant
    → Result (List InvariantParts) CheckFault
invariants_at constants ps cs index names [] = Ok []
invariants_at constants ps cs index names (v ∷ more) =
    and_then (in_declaration index (new_invariant_at constants ps cs names v))
    (λ i. and_then (invariants_at constants ps cs (index + 1) (names ++ v.name ∷ []) more) (λ is. Ok (i ∷ is)))

-- the system of what was placed and of these invariants, the first of which has this index
unfoldable pub system_with : NameShapes → PlacedParts → ℕ → List SourceInvariant → Result SystemParts CheckFault
system_with constants s index vs = and_then (invariants_at constants s.programs s.channels index [] vs)
    (λ is. Ok (system (words constants) s.programs s.channels s.scripts is))

-- the system of a text of these constants and automata, whose system section has this index, with the invariants
-- behind it
unfoldable pub parts_at : NameShapes → List AutomatonParts → ℕ → SourceText → Result SystemParts CheckFault
parts_at constants automata index x = and_then (in_declaration index (placed_at constants automata x.system))
    (λ s. system_with constants s (index + 1) x.invariants)

-- the system of a text: its system section stands behind the declarations
unfoldable pub system_of : SourceText → Result SystemParts CheckFault
system_of x = and_then (types_at 0 no_types x.declarations)
    (λ t. and_then (automata_at t 0 [] x.declarations)
    (λ automata. parts_at t.constants automata (length x.declarations) x))
