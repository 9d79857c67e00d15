use Rattle.std.proofs.Common.{◌≡◌, ◌++◌, map, drop}
use Rattle.ioa_tokens.specs.declared.mark.Mark.TheVariants as mark
use Rattle.ioa_terms.specs.View.{term_of}
use Rattle.ioa_term_reader.specs.Spelling.{spelling}
use Rattle.ioa_front.specs.Spelling.{separated_spelling}
use Rattle.ioa_front.specs.Listing.{items_left}
use Rattle.ioa_front.proofs.terms.put_terms.Given as goal

-- what is put so far and the terms that are left are all of them
abbrev pub invariant-loop-term : goal.invariant-loop-term
invariant-loop-term l =
    l.out ++ items_left mark.Comma spelling l.first (map term_of (drop l.term-index l.terms)) ≡ l.initial.out ++ separated_spelling mark.Comma spelling (map term_of l.terms)
