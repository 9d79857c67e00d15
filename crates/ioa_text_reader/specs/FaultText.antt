-- The short text of each refusal (profile).
use Rattle.std.specs.Prelude.{ℕ, List, ◌++◌, codes}
use Rattle.std.specs.Fmt.{decimal}
use Rattle.ioa_text_reader.specs.declared.fault.FrontFault.{FrontFault}
use Rattle.ioa_text_reader.specs.declared.fault.FrontFault.TheVariants.{Empty, BadCharacter, Unexpected}
use Rattle.ioa_text_reader.specs.declared.fault.FrontFault.TheVariants.{NumberTooLarge, TooDeep, TooLong}
use Rattle.ioa_text_reader.specs.declared.fault.FrontFault.TheVariants.{LeftOut, Memory}
use Rattle.ioa_text_reader.specs.declared.parsing.TheConstants.{LENGTH_LIMIT}

-- the number, the name and the offset
abbrev pub front_fault_text : FrontFault → List ℕ
front_fault_text Empty = codes "10 Empty at 0"
front_fault_text (BadCharacter offset) = codes "11 BadCharacter at " ++ decimal offset
front_fault_text (Unexpected offset) = codes "12 Unexpected at " ++ decimal offset
front_fault_text (NumberTooLarge offset) = codes "13 NumberTooLarge at " ++ decimal offset
front_fault_text (TooDeep offset) = codes "14 TooDeep at " ++ decimal offset
front_fault_text TooLong = codes "15 TooLong at " ++ decimal LENGTH_LIMIT
front_fault_text (LeftOut w offset) = codes "16 LeftOut at " ++ decimal offset
front_fault_text Memory = codes "3 Memory"
