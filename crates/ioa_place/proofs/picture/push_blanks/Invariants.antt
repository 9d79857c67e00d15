use Rattle.std.proofs.Common.{◌≡◌, ◌++◌, drop}
use Rattle.ioa_place.specs.Pictures.{blanks}
use Rattle.ioa_place.proofs.picture.push_blanks.Given as goal

-- what was added, and the blanks for what is left, are all that is to be added
abbrev pub invariant-loop-byte : goal.invariant-loop-byte
invariant-loop-byte l =
    l.page.items ++ blanks (drop l.byte-index l.text) ≡ l.initial.page.items ++ blanks l.initial.text
