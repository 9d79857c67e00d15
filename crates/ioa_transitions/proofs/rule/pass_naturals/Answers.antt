use Rattle.std.proofs.Common.{◌≡◌, ◌∙◌, true, refl, sym, map, arith}
use Rattle.ioa_source.specs.TextView.{parameter_of}
use Rattle.ioa_transitions.specs.NodeAnswers.{are_natural}
use Rattle.ioa_transitions.proofs.Arguments.{are_natural_end}
use Rattle.ioa_transitions.proofs.rule.pass_naturals.Goals as goal

-- all parameters, or all arguments, have gone by
pub returns : goal.returns
returns c =
    let end = are_natural_end parameter_of c.args.parameters.now c.args.arguments.now c.loop-i.i (omega arith) in
    let all : are_natural (map parameter_of c.args.parameters.now) c.args.arguments.now ≡ true = sym c.loop-i.invariant ∙ end in
    rw all refl
