-- Sorts and statements with more within.
use Rattle.std.proofs.Common.{◌≡◌, ℕ, suc, ◌-◌, List, ap}
use Rattle.ioa_tokens.specs.declared.token.Token.{Token}
use Rattle.ioa_term_reader.proofs.Turns.{above_zero}
use Rattle.ioa_part_reader.specs.Reading.{sort_in}

pub sort_deeper : (room : ℕ) (xs : List Token) → (room ≡ 0 → ⊥) → sort_in room xs ≡ sort_in (suc (room - 1)) xs
sort_deeper room xs h = ap (λ n. sort_in n xs) (above_zero room h)
