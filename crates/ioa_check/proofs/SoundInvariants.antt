-- The invariants of a text.
use Rattle.std.proofs.Common.{◌≡◌, ℕ, ◌+◌, false, List, [], ◌∷◌, ◌++◌, subst, map}
use Rattle.std.specs.List.{AllByRecursion, AllZip, IsDistinct, list_any}
use Rattle.ioa_values.specs.Outcome.{and_then}
use Rattle.ioa_terms.specs.Bindings.{same_word}
use Rattle.ioa_terms.specs.Sorted.{NameShapes}
use Rattle.ioa_source.specs.Sides.{SourceInvariant}
use Rattle.ioa_source.specs.declared.declaration.Channel.{Channel}
use Rattle.ioa_system.specs.Invariants.{InvariantParts}
use Rattle.ioa_system.specs.Parts.{Parts}
use Rattle.ioa_refusals.specs.declared.refusal.Refusal.TheVariants.{Twice}
use Rattle.ioa_automata.proofs.Results.{result_is}
use Rattle.ioa_invariants.specs.Checked.{AreDeclaredParts, invariant_at}
use Rattle.ioa_invariants.specs.Meant.{IsInvariantOf}
use Rattle.ioa_invariants.proofs.Sound.{invariant_sound}
use Rattle.ioa_sections.specs.Faults.{in_declaration}
use Rattle.ioa_sections.proofs.Results.{checked_is, first_of, is_not_met, within_declaration}
use Rattle.ioa_sections.proofs.Apart.{all_apart}
use Rattle.ioa_sections.proofs.Tests.{words_turned}
use Rattle.ioa_check.specs.Checking.{new_invariant_at, invariants_at}

-- checked invariants behind others of these names
pub record AreInvariantsOf (constants : NameShapes) (ps : List Parts) (cs : List Channel) (before : List (List ℕ)) (vs : List SourceInvariant) (is : List InvariantParts) : Type 0 where
  pub made : AllZip (IsInvariantOf constants ps cs) vs is
  pub new : AllByRecursion (λ w. list_any (same_word w) before ≡ false) (map (λ v. v.name) vs)
  pub differ : IsDistinct same_word (map (λ v. v.name) vs)

module _ (constants : NameShapes) (ps : List Parts) (cs : List Channel) (declared : AreDeclaredParts constants ps) where
  -- an invariant that was found has a new name
  new_sound : (before : List (List ℕ)) (v : SourceInvariant) (i : InvariantParts) → new_invariant_at constants ps cs before v ≡ result_is i → (list_any (same_word v.name) before ≡ false) × IsInvariantOf constants ps cs v i
  unfolding new_invariant_at
  new_sound before v i h =
      let test = is_not_met (list_any (same_word v.name) before) (invariant_at constants ps cs v) Twice i h in
      (test.0, invariant_sound constants ps cs v i declared test.1)

  abbrev names_in : List SourceInvariant → List (List ℕ)
  names_in vs = map (λ v. v.name) vs

  pub invariants_sound : (index : ℕ) (before : List (List ℕ)) (vs : List SourceInvariant) (is : List InvariantParts) → invariants_at constants ps cs index before vs ≡ checked_is is → AreInvariantsOf constants ps cs before vs is
  unfolding IsDistinct
  invariants_sound index before [] is h = let same : [] ≡ is = cc in subst (AreInvariantsOf constants ps cs before []) same (record { made = tt; new = tt; differ = tt })
  invariants_sound index before (v ∷ more) is h =
      let one = first_of (in_declaration index (new_invariant_at constants ps cs before v)) (λ i. and_then (invariants_at constants ps cs (index + 1) (before ++ v.name ∷ []) more) (λ rest. checked_is (i ∷ rest))) is h in
      let two = first_of (invariants_at constants ps cs (index + 1) (before ++ v.name ∷ []) more) (λ rest. checked_is (one.0 ∷ rest)) is one.2 in
      let same : one.0 ∷ two.0 ≡ is = cc in
      let made = new_sound before v one.0 (within_declaration index (new_invariant_at constants ps cs before v) one.0 one.1) in
      let rest = invariants_sound (index + 1) (before ++ v.name ∷ []) more two.0 two.1 in
      let apart = all_apart (λ d w. same_word w d) before v.name (names_in more) rest.new in
      subst (AreInvariantsOf constants ps cs before (v ∷ more)) same (record {
        made = (made.1, rest.made);
        new = (made.0, apart.0);
        differ = (words_turned v.name (names_in more) apart.1, rest.differ);
      })
