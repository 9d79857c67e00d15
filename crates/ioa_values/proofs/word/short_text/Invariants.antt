use Rattle.std.proofs.Common.{◌≡◌, take}
use Rattle.ioa_values.proofs.word.short_text.Given as goal

-- what is written so far are the bytes gone by
abbrev pub invariant-loop-byte : goal.invariant-loop-byte
invariant-loop-byte l = l.text.bytes ≡ take l.byte-index l.bytes
