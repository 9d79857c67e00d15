use Rattle.std.proofs.Common.{◌∙◌, sym, ap, arith}
use Rattle.ioa_source.specs.TextView.{parameter_of}
use Rattle.ioa_transitions.specs.NodeStep.{own_value}
use Rattle.ioa_transitions.proofs.Arguments.{own_stays}
use Rattle.ioa_transitions.proofs.rule.constants_end.Goals as goal

pub loop-i-preserved : goal.loop-i-preserved
loop-i-preserved c =
    own_stays parameter_of c.args.parameters.now c.args.arguments.now c.loop-i.i c.index-parameters-i.result (omega arith) (omega arith)
    (λ v. ap (λ p. own_value (parameter_of p) v) (sym c.index-parameters-i.is ∙ c.in-Const.is))
    ∙ c.loop-i.invariant
