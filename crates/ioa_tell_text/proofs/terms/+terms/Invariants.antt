use Rattle.std.proofs.Common.{◌≡◌, ◌++◌, true, map, drop}
use Rattle.std.specs.Prelude.{string_bytes}
use Rattle.ioa_terms.specs.PlainTerm.{terms_of}
use Rattle.ioa_terms.specs.View.{term_of}
use Rattle.ioa_tell_text.specs.Terms.{parts_text}
use Rattle.ioa_tell_text.proofs.terms.+terms.Given as goal

-- what is written so far and the parts that are left are all of them
abbrev pub invariant-push_parts-loop-part : goal.invariant-push_parts-loop-part
invariant-push_parts-loop-part l =
    string_bytes l.out ++ parts_text l.first (terms_of (map term_of (drop l.part-index l.part-items)))
    ≡ string_bytes l.fn.out ++ parts_text true (terms_of (map term_of l.parts.items))
