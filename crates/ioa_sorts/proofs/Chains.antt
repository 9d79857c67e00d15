-- What results hold, one after another.
use Rattle.std.proofs.Common.{Result, Ok, Err, IfOk}
use Rattle.ioa_values.specs.Outcome.{and_then}

-- what holds of the first result, and of the second for each value that the first may be
pub chain : {A B E : Type 0} (P : A → Type 0) (Q : B → Type 0) (f : A → Result B E) (r : Result A E) → IfOk r P → ((x : A) → P x → IfOk (f x) Q) → IfOk (and_then r f) Q
chain P Q f (Ok x) h g = g x h
chain P Q f (Err e) h g = tt
