-- What a fault says as text (profile).
use Rattle.std.specs.Prelude.{ℕ, List, ◌++◌, codes}
use Rattle.std.specs.Fmt.{decimal}
use Rattle.ioa_tokens.specs.declared.fault.CutFault.{CutFault}
use Rattle.ioa_tokens.specs.declared.fault.CutFault.TheVariants.{BadCharacter, NumberTooLarge, Memory}

-- what is wrong, and at which byte
abbrev pub cut_fault_text : CutFault → List ℕ
cut_fault_text (BadCharacter offset) = codes "the character at byte " ++ (decimal offset ++ codes " begins no token")
cut_fault_text (NumberTooLarge offset) = codes "the number at byte " ++ (decimal offset ++ codes " is too large")
cut_fault_text Memory = codes "out of memory"
