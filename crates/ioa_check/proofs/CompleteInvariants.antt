-- Each invariant of a text is found.
use Rattle.std.proofs.Common.{◌≡◌, ℕ, ◌+◌, false, List, [], ◌∷◌, ◌++◌, refl, map}
use Rattle.std.specs.List.{AllZip, IsDistinct, list_any}
use Rattle.ioa_terms.specs.Bindings.{same_word}
use Rattle.ioa_terms.specs.Sorted.{NameShapes}
use Rattle.ioa_source.specs.Sides.{SourceInvariant}
use Rattle.ioa_source.specs.declared.declaration.Channel.{Channel}
use Rattle.ioa_system.specs.Invariants.{InvariantParts}
use Rattle.ioa_system.specs.Parts.{Parts}
use Rattle.ioa_automata.proofs.Results.{result_is}
use Rattle.ioa_invariants.specs.Meant.{IsInvariantOf}
use Rattle.ioa_invariants.proofs.Complete.{invariant_found}
use Rattle.ioa_sections.proofs.Results.{checked_is}
use Rattle.ioa_sections.proofs.Tests.{new_word}
use Rattle.ioa_check.specs.Checking.{new_invariant_at, invariants_at}

module _ (constants : NameShapes) (ps : List Parts) (cs : List Channel) where
  -- an invariant of a new name
  new_found : (names : List (List ℕ)) (v : SourceInvariant) (i : InvariantParts) → IsInvariantOf constants ps cs v i → list_any (same_word v.name) names ≡ false → result_is i ≡ new_invariant_at constants ps cs names v
  unfolding new_invariant_at
  new_found names v i h new = rw new (invariant_found constants ps cs v i h)

  pub invariants_found : (index : ℕ) (names : List (List ℕ)) (vs : List SourceInvariant) (is : List InvariantParts) → AllZip (IsInvariantOf constants ps cs) vs is → IsDistinct same_word (names ++ map (λ v. v.name) vs) → checked_is is ≡ invariants_at constants ps cs index names vs
  invariants_found index names [] [] h d = refl
  invariants_found index names [] (i ∷ is) h d = absurd h
  invariants_found index names (v ∷ more) [] h d = absurd h
  invariants_found index names (v ∷ more) (i ∷ is) h d =
      let new = new_word names v.name (map (λ (w : SourceInvariant). w.name) more) d in
      rw (← new_found names v i h.0 new.0, ← invariants_found (index + 1) (names ++ v.name ∷ []) more is h.1 new.1) refl
