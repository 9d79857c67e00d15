-- The types and the automata of a text.
use Rattle.std.proofs.Common.{◌≡◌, ℕ, ◌+◌, false, List, [], ◌∷◌, ◌++◌, sym, subst, map}
use Rattle.std.specs.List.{AllByRecursion, AllZip, IsDistinct, list_any}
use Rattle.ioa_values.specs.Outcome.{and_then}
use Rattle.ioa_terms.specs.Bindings.{same_word}
use Rattle.ioa_source.specs.PlainText.{type_named, automaton}
use Rattle.ioa_source.specs.Sides.{SourceDeclaration}
use Rattle.ioa_system.specs.Parts.{AutomatonParts}
use Rattle.ioa_names.specs.NameTables.{AreDistinct}
use Rattle.ioa_types.specs.Meanings.{AreTextTypes}
use Rattle.ioa_types.specs.TextTypes.{PlainTextTypes, no_types, with_type}
use Rattle.ioa_types.proofs.Meant.{no_text_types, type_added}
use Rattle.ioa_types.proofs.TypeDeclarations.{type_sound}
use Rattle.ioa_automata.specs.SortedAutomata.{IsAutomatonOf}
use Rattle.ioa_automata.proofs.SoundRules.{automaton_sound}
use Rattle.ioa_sections.specs.Sections.{automata_in}
use Rattle.ioa_sections.specs.Declarations.{types_at, new_automaton_at, automata_at}
use Rattle.ioa_sections.specs.Faults.{in_declaration}
use Rattle.ioa_sections.specs.Meant.{AreTypesOf}
use Rattle.ioa_sections.proofs.Results.{checked_is, first_of, within_declaration}
use Rattle.ioa_sections.proofs.Apart.{all_apart}
use Rattle.ioa_sections.proofs.Grounds.{automaton_new}
use Rattle.ioa_sections.proofs.Tests.{words_turned}

-- types
types_sound : (ds : List SourceDeclaration) (index : ℕ) (t u : PlainTextTypes) → AreTextTypes t → AreDistinct t.types → types_at index t ds ≡ checked_is u → AreTypesOf ds t u × AreTextTypes u
types_sound [] index t u text differ h = let same : t ≡ u = cc in (sym same, subst AreTextTypes same text)
types_sound (type_named d ∷ more) index t u text differ h =
    let one = first_of (in_declaration index (with_type t d)) (λ v. types_at (index + 1) v more) u h in
    let made = within_declaration index (with_type t d) one.0 one.1 in
    let declares = type_sound t one.0 d text differ made in
    let rest = types_sound more (index + 1) one.0 u (type_added t one.0 d text made) declares.types_differ one.2 in
    ((one.0, declares, rest.0), rest.1)
types_sound (automaton a ∷ more) index t u text differ h = types_sound more (index + 1) t u text differ h

pub text_types_sound : (ds : List SourceDeclaration) (u : PlainTextTypes) → types_at 0 no_types ds ≡ checked_is u → AreTypesOf ds no_types u × AreTextTypes u
unfolding IsDistinct
text_types_sound ds u h = types_sound ds 0 no_types u no_text_types tt h

-- automata
abbrev names_in : List SourceDeclaration → List (List ℕ)
names_in ds = map (λ a. a.name) (automata_in ds)

pub record AreAutomataOf (t : PlainTextTypes) (before : List (List ℕ)) (ds : List SourceDeclaration) (cs : List AutomatonParts) : Type 0 where
  pub made : AllZip (IsAutomatonOf t) (automata_in ds) cs
  pub new : AllByRecursion (λ w. list_any (same_word w) before ≡ false) (map (λ a. a.name) (automata_in ds))
  pub differ : IsDistinct same_word (map (λ a. a.name) (automata_in ds))

pub automata_sound : (t : PlainTextTypes) → AreTextTypes t → (ds : List SourceDeclaration) (index : ℕ) (before : List (List ℕ)) (cs : List AutomatonParts) → automata_at t index before ds ≡ checked_is cs → AreAutomataOf t before ds cs
unfolding IsDistinct
automata_sound t text [] index before cs h = let same : [] ≡ cs = cc in subst (AreAutomataOf t before []) same (record { made = tt; new = tt; differ = tt })
automata_sound t text (type_named d ∷ more) index before cs h =
    let rest = automata_sound t text more (index + 1) before cs h in record { made = rest.made; new = rest.new; differ = rest.differ }
automata_sound t text (automaton a ∷ more) index before cs h =
    let one = first_of (in_declaration index (new_automaton_at t before a)) (λ c. and_then (automata_at t (index + 1) (before ++ a.name ∷ []) more) (λ rest. checked_is (c ∷ rest))) cs h in
    let two = first_of (automata_at t (index + 1) (before ++ a.name ∷ []) more) (λ rest. checked_is (one.0 ∷ rest)) cs one.2 in
    let same : one.0 ∷ two.0 ≡ cs = cc in
    let made = automaton_new t before a one.0 (within_declaration index (new_automaton_at t before a) one.0 one.1) in
    let rest = automata_sound t text more (index + 1) (before ++ a.name ∷ []) two.0 two.1 in
    let apart = all_apart (λ d w. same_word w d) before a.name (names_in more) rest.new in
    subst (AreAutomataOf t before (automaton a ∷ more)) same (record {
      made = (automaton_sound t text a one.0 made.1, rest.made);
      new = (made.0, apart.0);
      differ = (words_turned a.name (names_in more) apart.1, rest.differ);
    })
