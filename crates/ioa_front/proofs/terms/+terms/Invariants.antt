use Rattle.std.proofs.Common.{◌≡◌, ◌++◌, map, drop}
use Rattle.ioa_terms.specs.PlainTerm.{terms_of}
use Rattle.ioa_terms.specs.View.{term_of}
use Rattle.ioa_term_reader.specs.Spelling.{parts_spelling}
use Rattle.ioa_front.specs.Listing.{parts_left}
use Rattle.ioa_front.proofs.terms.+terms.Given as goal

-- what is put so far and the parts that are left are all of them
abbrev pub invariant-put_parts-loop-part : goal.invariant-put_parts-loop-part
invariant-put_parts-loop-part l =
    l.out ++ parts_left l.first (terms_of (map term_of (drop l.part-index l.part-items))) ≡ l.fn.out ++ parts_spelling (terms_of (map term_of l.parts.items))
