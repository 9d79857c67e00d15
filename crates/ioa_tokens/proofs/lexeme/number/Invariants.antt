use Rattle.std.proofs.Common.{◌≡◌, ◌≤◌, take}
use Rattle.std.specs.Str.Parse.{digits_value}
use Rattle.ioa_tokens.specs.Lexeme.{greatest_number}
use Rattle.ioa_tokens.proofs.lexeme.number.Given as goal

-- the value of the digits gone by
abbrev pub invariant-loop-byte : goal.invariant-loop-byte
invariant-loop-byte l = (l.value ≡ digits_value 10 (take l.byte-index l.digits)) × (l.value ≤ greatest_number)
