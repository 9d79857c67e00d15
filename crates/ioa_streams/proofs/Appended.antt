-- Lemmas on known bytes that grow.
use Rattle.std.proofs.Common.{◌≡◌, ℕ, ◌+◌, ◌-◌, ◌++◌, List, length, take, drop, arith, length-drop}
use Rattle.std.proofs.Math.Seq.{take-add}
use Rattle.std.proofs.lemmas.List.{take_all}

-- a beginning of a text with the first n of the bytes that are left is a longer beginning
pub take-rest : (sent n : ℕ) (text : List ℕ) →
    take sent text ++ take n (take (length text - sent) (drop sent text)) ≡ take (sent + n) text
take-rest sent n text =
    rw (take_all (length text - sent) (drop sent text) (omega (arith, length-drop sent text)), take-add sent n text)
