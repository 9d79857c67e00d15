use Rattle.std.proofs.Common.{ℕ, sym, ap, arith, length}
use Rattle.ioa_operators.specs.declared.shape.Shape.{Shape}
use Rattle.std.proofs.lemmas.List.{length-map}
use Rattle.ioa_source.specs.TextView.{entry_of, parameter_of}
use Rattle.ioa_system.specs.InView.{given_bindings}
use Rattle.ioa_transitions.proofs.Arguments.{entry_agrees_short}
use Rattle.ioa_transitions.proofs.rule.entry_agrees.Goals as goal

pub returns-then-len-arguments : goal.returns-then-len-arguments
returns-then-len-arguments c =
    let n = length-map c.args.entry.now.parameters.items (parameter_of {N = ℕ} {D = Shape}) in
    let many = ap length c.requires.own in
    let program = c.args.program.now in
    sym (entry_agrees_short (given_bindings program.automaton program.arguments) c.args.action.now (entry_of c.args.entry.now) (λ e. omega arith))
