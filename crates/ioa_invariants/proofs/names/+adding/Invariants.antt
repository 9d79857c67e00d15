use Rattle.std.proofs.Common.{◌≡◌, map, drop}
use Rattle.ioa_terms.specs.PlainTerm.{terms_of}
use Rattle.ioa_terms.specs.View.{term_of}
use Rattle.ioa_invariants.specs.ReadNames.{read_all_in}
use Rattle.ioa_invariants.proofs.names.+adding.Given as goal

-- all names are those so far and then those of the terms that are left
abbrev pub invariant-add_all_names-loop-term : goal.invariant-add_all_names-loop-term
invariant-add_all_names-loop-term l =
    read_all_in l.names (terms_of (map term_of (drop l.term-index l.term-items))) ≡ read_all_in l.fn.names (terms_of (map term_of l.terms.items))
