use Rattle.std.proofs.Common.{◌≡◌, ◌++◌, map, drop}
use Rattle.ioa_tokens.specs.declared.mark.Mark.TheVariants as mark
use Rattle.ioa_source.specs.TextView.{declared_of}
use Rattle.ioa_front.specs.Spelling.{separated_spelling, declared_spelling}
use Rattle.ioa_front.specs.Listing.{items_left}
use Rattle.ioa_front.proofs.declarations.put_all_declared.Given as goal

-- what is put so far and the names that are left are all of them
abbrev pub invariant-loop-declared : goal.invariant-loop-declared
invariant-loop-declared l =
    l.out ++ items_left mark.Comma declared_spelling l.first (map declared_of (drop l.declared-index l.declarations)) ≡ l.initial.out ++ separated_spelling mark.Comma declared_spelling (map declared_of l.declarations)
