-- Looking a spelling up in a table, row by row.
use Rattle.std.proofs.Common.{◌≡◌, ℕ, ◌<◌, ◌+◌, Bool, true, false, List, ◌∷◌, length, drop, get_or, Some, refl, ap, ◌∙◌, add-one}
use Rattle.std.specs.Borrow.{Bor}
use Rattle.std.specs.Map.{lookup}
use Rattle.std.proofs.Math.Seq.{drop-cons}
use Rattle.ioa_tokens.specs.Tables.{spelled_rows}

module _ {A : Type 0} (rows : List (Bor (List ℕ) × A)) (i : ℕ) (row : Bor (List ℕ) × A) (within : i < length rows) (is : row ≡ get_or rows i row) where
  -- from a row on, the table begins with that row
  spelled_rows-drop : spelled_rows (drop i rows) ≡ (row.0.now, row.1) ∷ spelled_rows (drop (i + 1) rows)
  spelled_rows-drop = ap spelled_rows (drop-cons rows i row within) ∙ rw (← is, add-one) refl

  -- a row that passes is the result
  pub lookup_here : (test : List ℕ → Bool) → test row.0.now ≡ true → lookup test (spelled_rows (drop i rows)) ≡ Some row.1
  lookup_here test passes = rw (spelled_rows-drop, passes) refl

  -- a row that does not pass is gone by
  pub lookup_later : (test : List ℕ → Bool) → test row.0.now ≡ false → lookup test (spelled_rows (drop i rows)) ≡ lookup test (spelled_rows (drop (i + 1) rows))
  lookup_later test fails = rw (spelled_rows-drop, fails) refl
