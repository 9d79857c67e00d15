use Rattle.std.proofs.Common.{◌≡◌, ◌∙◌, Some, rules}
use Rattle.std.specs.Prelude.{slice_get}
use Rattle.std.specs.List.{position_from}
use Rattle.std.specs.Option.{option_copied}
use Rattle.ioa_actions.specs.ComponentOrder.{same_component}
use Rattle.ioa_compose.specs.Composition.{component_names}
use Rattle.ioa_verdicts.proofs.Found.{found_at}
use Rattle.ioa_show.proofs.finding.conf_of.Goals as goal

pub returns-in-Some : goal.returns-in-Some
returns-in-Some c =
    let there : Some c.in-Some.slot ≡ position_from (λ l. same_component c.args.component l) 0 (component_names c.args.course.now) = search rules in
    let got : option_copied c.conf_at.result ≡ slice_get c.args.course.now c.in-Some.slot = rw (← c.confs.ensures) c.conf_at.ensures in
    got ∙ found_at c.args.component c.args.course.now c.in-Some.slot there
