use Rattle.std.proofs.Common.{◌≡◌, [], ◌∷◌, Result, subst, sym}
use Rattle.std.specs.Option.{IfSome}
use Rattle.ioa_values.specs.Data.{Data}
use Rattle.ioa_values.specs.Outcome.{Answers}
use Rattle.ioa_operators.specs.declared.fault.TermFault.{TermFault}
use Rattle.ioa_operators.specs.declared.fault.TermFault.TheVariants.{Memory}
use Rattle.ioa_terms.specs.View.{term_of}
use Rattle.ioa_terms.specs.Views.{environment_of}
use Rattle.ioa_terms.proofs.Stepwise.{called_with_two, two_items}
use Rattle.ioa_terms.proofs.evaluation.of_parts.Goals as goal

-- there are two parts
pub returns-in-len2 : goal.returns-in-len2
returns-in-len2 c =
    let parts : c.args.parts.now.items ≡ c.first-item.result ∷ c.second-item.result ∷ [] =
    two_items c.args.parts.now.items c.first-item.result c.second-item.result
    (rw (← c.as_slice.ensures.value) c.in-len2.len_at_least) (rw (← c.as_slice.ensures.value) c.in-len2.len_below)
    (rw (← c.as_slice.ensures.value) c.first-item.is) (rw (← c.as_slice.ensures.value) c.second-item.is) in
    let environment = environment_of c.args.view.now c.args.values.now in
    rw parts
    (subst (λ (meant : Result Data TermFault). IfSome c.of_two_parts.result (λ r. Answers Memory (λ v. v) r meant))
    (sym (called_with_two (term_of c.first-item.result) (term_of c.second-item.result) environment c.args.function))
    c.of_two_parts.ensures)
