-- A loop over the invariants of a text that checks each.
use Rattle.std.proofs.Common.{◌≡◌, ◌<◌, ◌+◌, ℕ, List, [], ◌∷◌, ◌++◌, Result, Ok, Err, refl, sym, ap, ◌∙◌, map, drop, length, get_or, arith}
use Rattle.std.proofs.lemmas.List.{append_assoc, drop_more}
use Rattle.ioa_values.specs.Outcome.{and_then}
use Rattle.ioa_terms.specs.Sorted.{NameShapes}
use Rattle.ioa_source.specs.Sides.{SourceInvariant}
use Rattle.ioa_source.specs.TextView.{invariant_of}
use Rattle.ioa_source.specs.declared.declaration.Channel.{Channel}
use Rattle.ioa_source.specs.declared.declaration.Invariant.{Invariant}
use Rattle.ioa_system.specs.Invariants.{InvariantParts}
use Rattle.ioa_system.specs.Parts.{Parts}
use Rattle.ioa_sections.specs.Faults.{in_declaration}
use Rattle.ioa_sections.specs.declared.fault.CheckFault.{CheckFault}
use Rattle.ioa_check.specs.Checking.{new_invariant_at, invariants_at}

-- those found so far, and then those of the invariants that are left
abbrev pub found_and_left : List InvariantParts → Result (List InvariantParts) CheckFault → Result (List InvariantParts) CheckFault
found_and_left done left = and_then left (λ is. Ok (done ++ is))

module _ (constants : NameShapes) (ps : List Parts) (cs : List Channel) where
  -- an invariant that was found is behind those found before, and in front of those of the invariants behind it
  invariant_more : (i : ℕ) (names : List (List ℕ)) (v : SourceInvariant) (found : InvariantParts) (more : List SourceInvariant) (done : List InvariantParts) → in_declaration i (new_invariant_at constants ps cs names v) ≡ Ok found →
      found_and_left done (invariants_at constants ps cs i names (v ∷ more)) ≡ found_and_left (done ++ found ∷ []) (invariants_at constants ps cs (i + 1) (names ++ v.name ∷ []) more)
  invariant_more i names v found more done h = rw h (by_rest (invariants_at constants ps cs (i + 1) (names ++ v.name ∷ []) more))
    where
      by_rest : (r : Result (List InvariantParts) CheckFault) → found_and_left done (and_then r (λ is. Ok (found ∷ is))) ≡ found_and_left (done ++ found ∷ []) r
      by_rest (Ok is) = ap Ok (sym (append_assoc done (found ∷ []) is))
      by_rest (Err f) = refl

  pub invariant_behind : (first i : ℕ) (names : List (List ℕ)) (items : List (Invariant (Unit {0}) (Unit {0}) (Unit {0}))) (d : Invariant (Unit {0}) (Unit {0}) (Unit {0})) (done : List InvariantParts) (found : InvariantParts) → i < length items → d ≡ get_or items i d →
      in_declaration (first + i) (new_invariant_at constants ps cs names (invariant_of d)) ≡ Ok found →
      found_and_left done (invariants_at constants ps cs (first + i) names (map invariant_of (drop i items))) ≡ found_and_left (done ++ found ∷ []) (invariants_at constants ps cs (first + (i + 1)) (names ++ (invariant_of d).name ∷ []) (map invariant_of (drop (i + 1) items)))
  invariant_behind first i names items d done found within at made =
      let next : first + i + 1 ≡ first + (i + 1) = omega arith in
      rw (drop_more items i d within, ← at)
      (invariant_more (first + i) names (invariant_of d) found (map invariant_of (drop (i + 1) items)) done made
      ∙ ap (λ k. found_and_left (done ++ found ∷ []) (invariants_at constants ps cs k (names ++ (invariant_of d).name ∷ []) (map invariant_of (drop (i + 1) items)))) next)
