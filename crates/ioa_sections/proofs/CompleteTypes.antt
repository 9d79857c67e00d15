-- The types and the automata of each text that has them are found.
use Rattle.std.proofs.Common.{◌≡◌, ℕ, ◌+◌, false, List, [], ◌∷◌, ◌++◌, refl, ap, map}
use Rattle.std.specs.List.{AllZip, IsDistinct, list_any}
use Rattle.ioa_terms.specs.Bindings.{same_word}
use Rattle.ioa_source.specs.PlainText.{type_named, automaton}
use Rattle.ioa_source.specs.Sides.{SourceAutomaton, SourceDeclaration}
use Rattle.ioa_system.specs.Parts.{AutomatonParts}
use Rattle.ioa_types.specs.TextTypes.{PlainTextTypes}
use Rattle.ioa_types.proofs.TypeDeclarations.{type_found}
use Rattle.ioa_automata.specs.SortedAutomata.{IsAutomatonOf}
use Rattle.ioa_automata.proofs.Complete.{automaton_found}
use Rattle.ioa_automata.proofs.Results.{result_is}
use Rattle.ioa_sections.specs.Declarations.{types_at, new_automaton_at, automata_at}
use Rattle.ioa_sections.specs.Sections.{automata_in}
use Rattle.ioa_sections.specs.Meant.{AreTypesOf}
use Rattle.ioa_sections.proofs.Results.{checked_is}
use Rattle.ioa_sections.proofs.Tests.{new_word}

-- the types
pub types_found : (ds : List SourceDeclaration) (index : ℕ) (before t : PlainTextTypes) → AreTypesOf ds before t → checked_is t ≡ types_at index before ds
types_found [] index before t h = ap checked_is h
types_found (type_named d ∷ more) index before t h = rw (type_found before h.0 d h.1) (types_found more (index + 1) h.0 t h.2)
types_found (automaton a ∷ more) index before t h = types_found more (index + 1) before t h

-- an automaton of a new name
new_found : (t : PlainTextTypes) (names : List (List ℕ)) (a : SourceAutomaton) (c : AutomatonParts) → IsAutomatonOf t a c → list_any (same_word a.name) names ≡ false → result_is c ≡ new_automaton_at t names a
unfolding new_automaton_at
new_found t names a c h new = rw new (automaton_found t a c h)

-- the automata
pub automata_found : (t : PlainTextTypes) (index : ℕ) (names : List (List ℕ)) (ds : List SourceDeclaration) (cs : List AutomatonParts) → AllZip (IsAutomatonOf t) (automata_in ds) cs → IsDistinct same_word (names ++ map (λ a. a.name) (automata_in ds)) → checked_is cs ≡ automata_at t index names ds
automata_found t index names [] [] h d = refl
automata_found t index names [] (c ∷ cs) h d = absurd h
automata_found t index names (type_named y ∷ more) cs h d = automata_found t (index + 1) names more cs h d
automata_found t index names (automaton a ∷ more) [] h d = absurd h
automata_found t index names (automaton a ∷ more) (c ∷ cs) h d =
    let new = new_word names a.name (map (λ (b : SourceAutomaton). b.name) (automata_in more)) d in
    rw (← new_found t names a c h.0 new.0, ← automata_found t (index + 1) (names ++ a.name ∷ []) more cs h.1 new.1) refl
