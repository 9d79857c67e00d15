-- Faults of an input that is no text (profile).
use Rattle.std.specs.Prelude.{ℕ, ◌≡◌, ◌<◌, ◌≤◌, ◌++◌, List, length, codes, ⊤}
use Rattle.std.specs.Fmt.{decimal}
use Rattle.std.specs.Str.Lossy.{utf8_valid_len}
use Rattle.ioa_streams.specs.declared.input.InputFault.{InputFault}
use Rattle.ioa_streams.specs.declared.input.InputFault.TheVariants.{Read, TooLong, BadCharacter, Memory}

-- what a fault says of the bytes of an input of this limit: there are more than the limit; or there are not, and the bad
-- character is the byte right after the longest beginning that is UTF-8; a failed read and want of memory say nothing
abbrev pub IsFaultOf : ℕ → InputFault → List ℕ → Type 0
IsFaultOf limit Read bytes = ⊤
IsFaultOf limit (TooLong passed) bytes = limit < length bytes
IsFaultOf limit (BadCharacter offset) bytes =
    (length bytes ≤ limit) × (offset ≡ utf8_valid_len bytes) × (offset < length bytes)
IsFaultOf limit Memory bytes = ⊤

-- a fault of an input that is too long has the limit
abbrev pub NamesLimit : ℕ → InputFault → Type 0
NamesLimit limit Read = ⊤
NamesLimit limit (TooLong passed) = passed ≡ limit
NamesLimit limit (BadCharacter offset) = ⊤
NamesLimit limit Memory = ⊤

-- a fault as text: its number and its name, then the limit that is passed or the offset of the bad character
abbrev pub input_fault_text : InputFault → List ℕ
input_fault_text Read = codes "70 Read"
input_fault_text (TooLong limit) = codes "15 TooLong at " ++ decimal limit
input_fault_text (BadCharacter offset) = codes "11 BadCharacter at " ++ decimal offset
input_fault_text Memory = codes "3 Memory"
