-- Where something waits of a node.
use Rattle.std.proofs.Common.{◌≡◌, ℕ, ℤ, List, Option, ◌∙◌}
use Rattle.std.specs.Prelude.{position}
use Rattle.ioa_tell_text.specs.Kept.{is_of}
use Rattle.ioa_tell_text.specs.declared.waiting.Waiting.{Waiting}

-- it stands where it does for the same node in the same list
pub place_is : (n m : ℤ) (xs ys : List Waiting) (o : Option ℕ) → o ≡ position (is_of n) xs → n ≡ m → xs ≡ ys → o ≡ position (is_of m) ys
place_is n m xs ys o h e d = h ∙ (λ i. position (is_of (e i)) (d i))
