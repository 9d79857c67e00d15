-- A text that is written in two parts.
use Rattle.std.proofs.Common.{◌≡◌, ◌∙◌, ℕ, List, ◌++◌, Result, Ok, Err, ap, append_assoc}
use Rattle.std.specs.Prelude.{OnOk}

-- the second part is written behind the first
pub written_then : {X E : Type 0} (r : Result X E) (start old new first rest : List ℕ) → old ≡ start ++ first
    → OnOk r (new ≡ old ++ rest) → OnOk r (new ≡ start ++ (first ++ rest))
written_then (Ok x) start old new first rest h g =
    g ∙ ap (λ (xs : List ℕ). xs ++ rest) h ∙ append_assoc start first rest
written_then (Err e) start old new first rest h g = tt
