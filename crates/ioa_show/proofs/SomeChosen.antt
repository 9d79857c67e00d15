-- Values that an effect chose, put on a paper.
use Rattle.std.proofs.Common.{◌≡◌, ◌≤◌, ℕ, List, [], ◌∷◌, length, arith}
use Rattle.std.specs.Prelude.{codes}
use Rattle.ioa_values.specs.Data.{Data}
use Rattle.ioa_paper.specs.Papers.{PlainPaper, and_text}
use Rattle.ioa_show.specs.Steps.{chosen_told, values_told}
use Rattle.ioa_show.proofs.Puts.{two}

-- if there are some, the end of the list in front of them and then their own
pub some_chosen : (p a new : PlainPaper) (names : List (List ℕ)) (vs : List Data) → 1 ≤ length vs
    → a ≡ and_text p (codes "],\"chosen\":[") → new ≡ and_text a (values_told names vs)
    → new ≡ and_text p (chosen_told names vs)
some_chosen p a new names [] some e f = absurd (omega (arith, some))
some_chosen p a new names (v ∷ vs) some e f = two p a new (codes "],\"chosen\":[") (values_told names (v ∷ vs)) e f
