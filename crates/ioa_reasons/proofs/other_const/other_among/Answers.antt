use Rattle.std.proofs.Common.{◌≡◌, ℕ, arith, length, map}
use Rattle.std.proofs.lemmas.List.{length-map}
use Rattle.ioa_operators.specs.declared.shape.Shape.{Shape}
use Rattle.ioa_source.specs.TextView.{parameter_of}
use Rattle.ioa_system.specs.InView.{given_bindings}
use Rattle.ioa_reasons.proofs.ConstsFound.{first_found}
use Rattle.ioa_reasons.proofs.other_const.other_among.Goals as goal

pub returns : goal.returns
returns c =
    let program = c.args.program.now in
    let own = map (parameter_of {N = ℕ} {D = Shape}) c.args.parameters.now in
    let n = length-map c.args.parameters.now (parameter_of {N = ℕ} {D = Shape}) in
    let many : length own ≡ length c.args.arguments.now = omega arith in
    first_found (given_bindings program.automaton program.arguments) own c.args.arguments.now c.first_other.result many c.first_other.ensures
