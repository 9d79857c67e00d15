-- What a call that may find nothing returns (form).
use Rattle.std.specs.Prelude.{◌≡◌, List, Option, Some, None, Result, Ok, Err}
use Rattle.ioa_tokens.specs.declared.token.Token.{Token}

-- the call reads what `read` reads and leaves the tokens `new`, or finds that `read` reads nothing; after an error
-- nothing is known
abbrev pub ReadsIfThere : {A E : Type 0} → Option (A × List Token) → Result (Option A) E → List Token → Type 0
ReadsIfThere read (Ok (Some x)) new = read ≡ Some (x, new)
ReadsIfThere read (Ok None) new = read ≡ None
ReadsIfThere read (Err e) new = Unit {0}
