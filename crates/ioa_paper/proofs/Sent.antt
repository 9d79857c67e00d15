-- What went out, one piece after another.
use Rattle.std.proofs.Common.{ℕ, ◌+◌, ◌++◌, Bool, true, false, List, length, take, Option, sym, arith, subst, length-append}
use Rattle.std.proofs.KnownBytes.{Appends-trans}
use Rattle.std.proofs.lemmas.List.{take-append-le}
use Rattle.std.proofs.Math.Seq.{take-append-add}
use Rattle.ioa_paper.specs.Papers.{WentOut, Sends}

-- what went out before, and then what goes out of the bytes
pub goes_on : (failed after : Bool) (start old new : Option (List ℕ)) (text bytes : List ℕ) →
    WentOut failed start old text → Sends failed after old new bytes → WentOut after start new (text ++ bytes)
goes_on false false start old new text bytes went sent = Appends-trans start old new text bytes went sent
goes_on false true start old new text bytes went sent =
    (length text + sent.0, omega (arith, length-append text bytes, sent.1), rw (take-append-add text bytes sent.0) (Appends-trans start old new text (take sent.0 bytes) went sent.2))
goes_on true after start old new text bytes went sent =
    subst (λ (b : Bool). WentOut b start new (text ++ bytes)) (sym sent.0)
    (subst (λ (o : Option (List ℕ)). WentOut true start o (text ++ bytes)) (sym sent.1)
    (went.0, omega (arith, length-append text bytes, went.1), rw (take-append-le went.0 text bytes went.1) went.2))
