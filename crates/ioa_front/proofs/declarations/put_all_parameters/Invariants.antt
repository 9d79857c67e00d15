use Rattle.std.proofs.Common.{◌≡◌, ◌++◌, map, drop}
use Rattle.ioa_tokens.specs.declared.mark.Mark.TheVariants as mark
use Rattle.ioa_source.specs.TextView.{parameter_of}
use Rattle.ioa_front.specs.Spelling.{separated_spelling, parameter_spelling}
use Rattle.ioa_front.specs.Listing.{items_left}
use Rattle.ioa_front.proofs.declarations.put_all_parameters.Given as goal

-- what is put so far and the parameters that are left are all of them
abbrev pub invariant-loop-parameter : goal.invariant-loop-parameter
invariant-loop-parameter l =
    l.out ++ items_left mark.Comma parameter_spelling l.first (map parameter_of (drop l.parameter-index l.parameters)) ≡ l.initial.out ++ separated_spelling mark.Comma parameter_spelling (map parameter_of l.parameters)
