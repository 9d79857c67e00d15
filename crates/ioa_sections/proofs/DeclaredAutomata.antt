-- A loop over the declarations of a text that makes the automata.
use Rattle.std.proofs.Common.{◌≡◌, ◌<◌, ◌+◌, ℕ, List, [], ◌∷◌, ◌++◌, Result, Ok, Err, refl, sym, ap, map, drop, length, get_or}
use Rattle.std.proofs.lemmas.List.{append_assoc, drop_more}
use Rattle.ioa_values.specs.Outcome.{and_then}
use Rattle.ioa_source.specs.PlainText.{automaton}
use Rattle.ioa_source.specs.Sides.{SourceAutomaton, SourceDeclaration}
use Rattle.ioa_source.specs.TextView.{automaton_of, declaration_of}
use Rattle.ioa_source.specs.declared.declaration.Automaton.{Automaton}
use Rattle.ioa_source.specs.declared.declaration.Declaration.{Declaration}
use Rattle.ioa_source.specs.declared.declaration.Declaration.TheVariants as declaration
use Rattle.ioa_source.specs.declared.declaration.TypeDeclaration.{TypeDeclaration}
use Rattle.ioa_system.specs.Parts.{AutomatonParts}
use Rattle.ioa_types.specs.TextTypes.{PlainTextTypes}
use Rattle.ioa_sections.specs.Declarations.{automata_at, new_automaton_at}
use Rattle.ioa_sections.specs.Faults.{in_declaration}
use Rattle.ioa_sections.specs.declared.fault.CheckFault.{CheckFault}

-- those made so far, and then those of the declarations that are left
abbrev made_and_left : List AutomatonParts → Result (List AutomatonParts) CheckFault → Result (List AutomatonParts) CheckFault
made_and_left done left = and_then left (λ cs. Ok (done ++ cs))

-- an automaton that was made is behind those made before, and in front of those of the declarations behind it
automaton_more : (t : PlainTextTypes) (i : ℕ) (names : List (List ℕ)) (a : SourceAutomaton) (found : AutomatonParts) (more : List SourceDeclaration) (done : List AutomatonParts) → in_declaration i (new_automaton_at t names a) ≡ Ok found →
    made_and_left done (automata_at t i names (automaton a ∷ more)) ≡ made_and_left (done ++ found ∷ []) (automata_at t (i + 1) (names ++ a.name ∷ []) more)
automaton_more t i names a found more done h = rw h (by_rest (automata_at t (i + 1) (names ++ a.name ∷ []) more))
  where
    by_rest : (r : Result (List AutomatonParts) CheckFault) → made_and_left done (and_then r (λ cs. Ok (found ∷ cs))) ≡ made_and_left (done ++ found ∷ []) r
    by_rest (Ok cs) = ap Ok (sym (append_assoc done (found ∷ []) cs))
    by_rest (Err f) = refl

-- one declaration further: a type makes no automaton, and an automaton is put behind those before
module _ (t : PlainTextTypes) (i : ℕ) (names : List (List ℕ)) (items : List (Declaration (Unit {0}) (Unit {0}) (Unit {0}))) (d : Declaration (Unit {0}) (Unit {0}) (Unit {0})) (done : List AutomatonParts) (within : i < length items) (at : d ≡ get_or items i d) where
  pub type_behind : (x : TypeDeclaration (Unit {0})) → d ≡ declaration.Type x →
      made_and_left done (automata_at t i names (map declaration_of (drop i items))) ≡ made_and_left done (automata_at t (i + 1) names (map declaration_of (drop (i + 1) items)))
  type_behind x is = rw (drop_more items i d within, ← at, is) refl

  pub automaton_behind : (a : Automaton (Unit {0}) (Unit {0}) (Unit {0})) (found : AutomatonParts) → d ≡ declaration.Automaton a → in_declaration i (new_automaton_at t names (automaton_of a)) ≡ Ok found →
      made_and_left done (automata_at t i names (map declaration_of (drop i items))) ≡ made_and_left (done ++ found ∷ []) (automata_at t (i + 1) (names ++ (automaton_of a).name ∷ []) (map declaration_of (drop (i + 1) items)))
  automaton_behind a found is made =
      rw (drop_more items i d within, ← at, is)
      (automaton_more t i names (automaton_of a) found (map declaration_of (drop (i + 1) items)) done made)
