use Rattle.std.proofs.Common.{◌≡◌, ℕ, List, ap, rules, ◌∙◌}
use Rattle.ioa_actions.specs.ActionParts.{node_of}
use Rattle.ioa_tell_text.specs.Lines.{fault_line}
use Rattle.ioa_tell_text.specs.Stops.{unfit_text}
use Rattle.ioa_tell_text.specs.Teller.{and_written, flushed}
use Rattle.ioa_tell_text.proofs.text.TextTeller.unfit.Goals as goal

pub returns : goal.returns
returns g c =
    let teller = c.args.self.now in
    let action = c.args.action.now in
    let made : c.in_ok-why.why ≡ unfit_text teller.names c.args.name.now c.args.value.now = search rules in
    c.write_fault.ensures ∙ ap (λ (why : List ℕ). and_written (flushed (node_of action) teller) (fault_line teller.names action why)) made
