-- A text that is written several times.
use Rattle.std.proofs.Common.{◌≡◌, ℕ, zero, suc, ◌+◌, List, ◌++◌, ap, sym, ◌∙◌, append_assoc, append-nil, add-one}
use Rattle.std.specs.List.{repeat}

-- once more
repeat_next : (count : ℕ) (mark : List ℕ) → repeat count mark ++ mark ≡ repeat (suc count) mark
repeat_next zero mark = sym (append-nil mark)
repeat_next (suc count) mark =
    append_assoc mark (repeat count mark) mark ∙ ap (λ (l : List ℕ). mark ++ l) (repeat_next count mark)

-- the same behind a text
pub repeat_more : (before now after mark : List ℕ) (count : ℕ) → now ≡ before ++ repeat count mark → after ≡ now ++ mark
    → after ≡ before ++ repeat (count + 1) mark
repeat_more before now after mark count so one =
    one ∙ ap (λ (l : List ℕ). l ++ mark) so ∙ append_assoc before (repeat count mark) mark
    ∙ ap (λ (l : List ℕ). before ++ l) (repeat_next count mark ∙ ap (λ n. repeat n mark) (sym (add-one count)))
