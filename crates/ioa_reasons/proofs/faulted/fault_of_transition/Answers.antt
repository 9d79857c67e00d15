use Rattle.std.proofs.Common.{List, ◌∙◌, ap, rules, subst, sym}
use Rattle.ioa_terms.specs.Bindings.{Bindings, names_of}
use Rattle.ioa_terms.specs.Views.{all_names, all_values, names_in_view}
use Rattle.ioa_terms.specs.declared.name.Name.{Name}
use Rattle.ioa_terms.proofs.Slots.{names_environment}
use Rattle.ioa_reasons.specs.PlainReasons.{statement_place_of}
use Rattle.ioa_reasons.specs.Faulted.{StopsThen}
use Rattle.ioa_reasons.specs.FoundFaults.{fault_found}
use Rattle.ioa_reasons.proofs.faulted.fault_of_transition.Goals as goal

pub returns-in-Some-2 : goal.returns-in-Some-2
returns-in-Some-2 c =
    let view = c.step_view-view.result in
    let found = c.in-Some-2.field-0 in
    let named = names_environment (all_names view) (all_values view c.args.variables.now) view.constants.now c.step_view-view.ensures.named in
    let read = ap (λ (e : Bindings). names_of e) (sym c.step_view-view.ensures.value) in
    let met : StopsThen (names_in_view view) (statement_place_of found.place) (fault_found found.fault) = search rules in
    subst (λ (xs : List Name). StopsThen xs (statement_place_of found.place) (fault_found found.fault)) (sym (read ∙ named)) met
