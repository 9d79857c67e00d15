use Rattle.std.proofs.Common.{◌≡◌, ◌++◌, map, drop}
use Rattle.ioa_tokens.specs.declared.mark.Mark.TheVariants as mark
use Rattle.ioa_source.specs.TextView.{variable_of}
use Rattle.ioa_front.specs.Spelling.{separated_spelling, variable_spelling}
use Rattle.ioa_front.specs.Listing.{items_left}
use Rattle.ioa_front.proofs.declarations.put_variables.Given as goal

-- what is put so far and the variables that are left are all of them
abbrev pub invariant-loop-variable : goal.invariant-loop-variable
invariant-loop-variable l =
    l.out ++ items_left mark.Comma variable_spelling l.first (map variable_of (drop l.variable-index l.variables)) ≡ l.initial.out ++ separated_spelling mark.Comma variable_spelling (map variable_of l.variables)
