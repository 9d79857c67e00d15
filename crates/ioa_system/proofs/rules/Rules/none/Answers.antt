use Rattle.std.proofs.Common.{List, [], subst, sym}
use Rattle.std.specs.List.{IsDistinct}
use Rattle.ioa_terms.specs.Bindings.{same_word}
use Rattle.ioa_system.specs.Parts.{PlainRule, rule_names}
use Rattle.ioa_system.proofs.rules.Rules.none.Goals as goal

nothing_differs : IsDistinct same_word []
unfolding IsDistinct
nothing_differs = tt

pub invariant_of-result : goal.invariant_of-result
invariant_of-result c =
    subst (λ (rs : List PlainRule). IsDistinct same_word (rule_names rs)) (sym c.new.ensures.items) nothing_differs
