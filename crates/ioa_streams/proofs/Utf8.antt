-- Bytes that are not UTF-8 have a longest beginning that is, and a byte after it.
use Rattle.std.proofs.Common.{◌≡◌, ℕ, zero, suc, ◌<◌, Bool, true, false, List, length, take, if◌then◌else◌, refl, arith}
use Rattle.std.specs.Str.{IsUtf8, is_utf8}
use Rattle.std.specs.Str.Lossy.{valid_len_up_to, utf8_valid_len}
use Rattle.std.proofs.lemmas.List.{take_all}
use Rattle.std.proofs.lemmas.Str.{IsUtf8-nil, IsUtf8-from_is_utf8, utf8_valid_len_le}

tried_valid : (bs : List ℕ) (n m : ℕ) (b : Bool) → is_utf8 (take (suc n) bs) ≡ b → IsUtf8 (take m bs)
    → IsUtf8 (take (if b then suc n else m) bs)
tried_valid bs n m true e h = IsUtf8-from_is_utf8 (take (suc n) bs) e
tried_valid bs n m false e h = h

-- the beginning that is found is UTF-8
found_valid : (bs : List ℕ) (n : ℕ) → IsUtf8 (take (valid_len_up_to bs n) bs)
found_valid bs zero = IsUtf8-nil
found_valid bs (suc n) = tried_valid bs n (valid_len_up_to bs n) (is_utf8 (take (suc n) bs)) refl (found_valid bs n)

all_valid : (bs : List ℕ) → utf8_valid_len bs ≡ length bs → IsUtf8 bs
unfolding utf8_valid_len
all_valid bs e = rw (← take_all (utf8_valid_len bs) bs (omega (arith, e))) (found_valid bs (length bs))

-- bytes that are not UTF-8 have a byte right after the longest beginning that is
pub valid_len_below : (bs : List ℕ) → (IsUtf8 bs → ⊥) → utf8_valid_len bs < length bs
valid_len_below bs bad =
    let apart : utf8_valid_len bs ≡ length bs → ⊥ = λ e. bad (all_valid bs e) in
    omega (arith, utf8_valid_len_le bs, apart)
