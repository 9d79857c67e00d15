-- Output that goes out piece by piece (profile).
use Rattle.std.specs.Prelude.{ℕ, ◌≤◌, ◌==◌, ◌&&◌, nat_lt, Bool, List, length, take, Option, Result, Ok, Err}
use Rattle.std.specs.Io.KnownBytes.{Appends}

-- whether a piece that was not empty was refused, or nothing of it was taken
abbrev pub is_stuck : {E : Type 0} → List ℕ → Result ℕ E → Bool
is_stuck chunk (Ok n) = nat_lt 0 (length chunk) && n == 0
is_stuck chunk (Err e) = nat_lt 0 (length chunk)

-- if the bytes of an output are known, they grow by a beginning of the text, which may be all of it or nothing
abbrev pub AppendsBeginning : Option (List ℕ) → Option (List ℕ) → List ℕ → Type 0
AppendsBeginning old new text = (n : ℕ) × (n ≤ length text) × Appends old new (take n text)
