-- The number of the node at a place of a system, whose programs are seen so.
use Rattle.std.proofs.Common.{◌≡◌, ℕ, List, Bor, map, length, Some, None, refl, sym, ◌∙◌, ap}
use Rattle.std.proofs.lemmas.Option.{slice_get-map, slice_get_past, slice_get_read}
use Rattle.std.specs.List.{slice_get}
use Rattle.std.specs.Option.{option_map}
use Rattle.std.specs.Slice.{IsItemAt}
use Rattle.ioa_system.specs.Parts.{Parts}

module _ {X : Type 0} (view : X → Parts) (xs : List X) (programs : List Parts) (place : ℕ) (shown : map view xs ≡ programs) where
  number_at : slice_get (map (λ (p : Parts). p.node) programs) place ≡ option_map (λ (p : Parts). p.node) (option_map view (slice_get xs place))
  number_at =
      ap (λ (ps : List Parts). slice_get (map (λ (p : Parts). p.node) ps) place) (sym shown)
      ∙ slice_get-map (λ (p : Parts). p.node) (map view xs) place
      ∙ ap (option_map (λ (p : Parts). p.node)) (slice_get-map view xs place)

  -- it is that of the program there
  pub number_there : (x : Bor X) → IsItemAt xs place (Some x) → slice_get (map (λ (p : Parts). p.node) programs) place ≡ Some (view x.now).node
  number_there x is = number_at ∙ ap (λ o. option_map (λ (p : Parts). p.node) (option_map view o)) (slice_get_read xs (length xs) place x.now refl is.3.0 is.1)

  -- if there is one
  pub number_past : IsItemAt xs place None → slice_get (map (λ (p : Parts). p.node) programs) place ≡ None
  number_past is = number_at ∙ ap (λ o. option_map (λ (p : Parts). p.node) (option_map view o)) (slice_get_past xs place is.3)
