use Rattle.std.proofs.Common.{◌≡◌, ◌∙◌, Some, refl, rules, sym}
use Rattle.std.specs.Prelude.{slice_get}
use Rattle.std.specs.List.{position_from}
use Rattle.std.specs.Option.{option_copied}
use Rattle.ioa_actions.specs.ComponentOrder.{same_component}
use Rattle.ioa_compose.specs.Composition.{component_names}
use Rattle.ioa_course.proofs.Standing.{found_nowhere}
use Rattle.ioa_tell.proofs.Replaying.{found_in_slot}
use Rattle.ioa_tell.proofs.standing.conf_at.Goals as goal

pub returns-in-Some : goal.returns-in-Some
returns-in-Some c =
    let there : Some c.in-Some.slot ≡ position_from (λ l. same_component c.args.component l) 0 (component_names c.args.course.now) = search rules in
    let got : option_copied c.conf_in.result ≡ slice_get c.args.course.now c.in-Some.slot = rw (← c.confs.ensures) c.conf_in.ensures in
    got ∙ found_in_slot c.args.component c.args.course.now c.in-Some.slot there

pub returns-in-None : goal.returns-in-None
returns-in-None c =
    sym (found_nowhere c.args.component (component_names c.args.course.now) c.args.course.now refl c.in-None.ensures)
