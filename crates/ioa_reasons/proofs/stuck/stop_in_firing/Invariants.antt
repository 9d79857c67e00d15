use Rattle.std.proofs.Common.{map, drop}
use Rattle.std.specs.List.{AllByRecursion}
use Rattle.ioa_terms.specs.Resolved.{IsResolved}
use Rattle.ioa_terms.specs.View.{term_of}
use Rattle.ioa_terms.specs.Views.{names_in_view}
use Rattle.ioa_reasons.proofs.stuck.stop_in_firing.Given as goal

-- the terms that are left are resolved
abbrev pub invariant-loop-term : goal.invariant-loop-term
invariant-loop-term l = AllByRecursion (λ t. IsResolved t (names_in_view l.view)) (map term_of (drop l.term-index l.term-items))
