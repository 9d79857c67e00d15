-- Papers on which more and more is put.
use Rattle.std.proofs.Common.{◌≡◌, ◌∙◌, ℕ, ◌+◌, ◌-◌, ◌++◌, List, length, take, drop, ap, arith, length-drop, append_assoc}
use Rattle.std.proofs.Math.Seq.{take-add}
use Rattle.std.proofs.lemmas.List.{take_all}
use Rattle.ioa_paper.specs.Papers.{PlainPaper, and_text}

-- one text and then another one are one text
pub joined : (p : PlainPaper) (x y : List ℕ) → and_text (and_text p x) y ≡ and_text p (x ++ y)
joined p x y = ap (λ (t : List ℕ). record p { text = t }) (append_assoc p.text x y)

-- a beginning of a text with the first n of the bytes that are left is a longer beginning
take-rest : (sent n : ℕ) (text : List ℕ) →
    take sent text ++ take n (take (length text - sent) (drop sent text)) ≡ take (sent + n) text
take-rest sent n text =
    rw (take_all (length text - sent) (drop sent text) (omega (arith, length-drop sent text)), take-add sent n text)

-- a longer beginning of a piece is put on a paper
pub more_taken : (p mid new : PlainPaper) (taken n : ℕ) (piece : List ℕ) → mid ≡ and_text p (take taken piece)
    → new ≡ and_text mid (take n (take (length piece - taken) (drop taken piece)))
    → new ≡ and_text p (take (taken + n) piece)
more_taken p mid new taken n piece before now =
    now ∙ ap (λ (m : PlainPaper). and_text m (take n (take (length piece - taken) (drop taken piece)))) before
    ∙ joined p (take taken piece) (take n (take (length piece - taken) (drop taken piece)))
    ∙ ap (and_text p) (take-rest taken n piece)
