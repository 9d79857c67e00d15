-- The first line of a text.
use Rattle.std.proofs.Common.{◌≡◌, ℕ, suc, ◌+◌, ◌<◌, Bool, true, false, List, [], ◌∷◌, length, refl, ap, cond, arith}
use Rattle.std.specs.Prelude.{◌==◌, not}
use Rattle.std.specs.List.{after_first, before_first, onto_first, position_or_len}
use Rattle.std.proofs.lemmas.List.Splits.{slice_split-cons_no, slice_split_first}
use Rattle.ioa_lines.specs.Lines.{lines_of}

-- a text with a line feed
pub lines_split : (text line rest : List ℕ) → line ≡ before_first (λ b. b == 10) text → rest ≡ after_first (λ b. b == 10) text → position_or_len (λ b. b == 10) text < length text →
    lines_of text ≡ line ∷ lines_of rest
lines_split text line rest l r h = rw (l, r) (slice_split_first (λ b. b == 10) text 0 h)

-- no line feed is at the head, and none behind it
none_at_head : (found : Bool) (k n : ℕ) → cond (not found) (1 + k) 0 ≡ suc n → (found ≡ false) × (k ≡ n)
none_at_head true k n h = absurd (omega arith)
none_at_head false k n h = (refl, omega arith)

-- a text without one
pub lines_single : (text : List ℕ) → position_or_len (λ b. b == 10) text ≡ length text → lines_of text ≡ text ∷ []
lines_single [] h = refl
lines_single (c ∷ text) h =
    let none = none_at_head (c == 10) (position_or_len (λ b. b == 10) text) (length text) h in
    rw (slice_split-cons_no (λ b. b == 10) c text none.0) (ap (λ (ls : List (List ℕ)). onto_first c ls) (lines_single text none.1))
