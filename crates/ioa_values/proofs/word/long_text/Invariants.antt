use Rattle.std.proofs.Common.{◌≡◌, take, string_bytes}
use Rattle.ioa_values.proofs.word.long_text.Given as goal

-- what is written so far are the bytes gone by
abbrev pub invariant-loop-byte : goal.invariant-loop-byte
invariant-loop-byte l = string_bytes l.text ≡ take l.byte-index l.bytes
