-- The types and the automata that a text declares (profile). Declarations are counted from 0. An automaton reads all
-- types of the text, also those declared behind it.
use Rattle.std.specs.Prelude.{ℕ, ◌+◌, if◌then◌else◌, List, [], ◌∷◌, ◌++◌, Result, Ok, Err}
use Rattle.std.specs.List.{list_any}
use Rattle.ioa_values.specs.Outcome.{and_then}
use Rattle.ioa_terms.specs.Bindings.{same_word}
use Rattle.ioa_source.specs.PlainText.{type_named, automaton}
use Rattle.ioa_source.specs.Sides.{SourceAutomaton, SourceDeclaration}
use Rattle.ioa_system.specs.Parts.{AutomatonParts}
use Rattle.ioa_refusals.specs.declared.refusal.Refusal.{Refusal}
use Rattle.ioa_refusals.specs.declared.refusal.Refusal.TheVariants.{Twice}
use Rattle.ioa_types.specs.TextTypes.{PlainTextTypes, with_type}
use Rattle.ioa_automata.specs.Automata.{automaton_at}
use Rattle.ioa_sections.specs.declared.fault.CheckFault.{CheckFault}
use Rattle.ioa_sections.specs.Faults.{in_declaration}

-- the types with that of a declaration, if it declares one
abbrev pub with_declaration : PlainTextTypes → SourceDeclaration → Result PlainTextTypes Refusal
with_declaration t (type_named d) = with_type t d
with_declaration t (automaton a) = Ok t

-- the types with those of declarations, the first of which has this index
abbrev pub types_at : ℕ → PlainTextTypes → List SourceDeclaration → Result PlainTextTypes CheckFault
types_at index t [] = Ok t
types_at index t (d ∷ more) = and_then (in_declaration index (with_declaration t d)) (λ u. types_at (index + 1) u more)

-- an automaton with slots and shapes, if none of these automata has its name
unfoldable pub new_automaton_at : PlainTextTypes → List (List ℕ) → SourceAutomaton → Result AutomatonParts Refusal
new_automaton_at t names a = if list_any (same_word a.name) names then Err Twice else automaton_at t a

-- the automata of declarations, the first of which has this index, behind automata of these names
abbrev pub automata_at : PlainTextTypes → ℕ → List (List ℕ) → List SourceDeclaration
    → Result (List AutomatonParts) CheckFault
automata_at t index names [] = Ok []
automata_at t index names (type_named d ∷ more) = automata_at t (index + 1) names more
automata_at t index names (automaton a ∷ more) = and_then (in_declaration index (new_automaton_at t names a))
    (λ c. and_then (automata_at t (index + 1) (names ++ a.name ∷ []) more) (λ cs. Ok (c ∷ cs)))
