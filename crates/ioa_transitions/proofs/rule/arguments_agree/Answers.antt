use Rattle.std.proofs.Common.{ℕ, sym, map, arith}
use Rattle.ioa_operators.specs.declared.shape.Shape.{Shape}
use Rattle.std.proofs.lemmas.List.{length-map}
use Rattle.ioa_source.specs.TextView.{parameter_of}
use Rattle.ioa_system.specs.InView.{given_bindings}
use Rattle.ioa_transitions.proofs.Arguments.{arguments_agree_short}
use Rattle.ioa_transitions.proofs.rule.arguments_agree.Goals as goal

pub returns-then-parameters-arguments : goal.returns-then-parameters-arguments
returns-then-parameters-arguments c =
    let n = length-map c.args.parameters.now (parameter_of {N = ℕ} {D = Shape}) in
    let program = c.args.program.now in
    sym (arguments_agree_short (given_bindings program.automaton program.arguments) (map parameter_of c.args.parameters.now) c.args.arguments.now (λ e. omega arith))
