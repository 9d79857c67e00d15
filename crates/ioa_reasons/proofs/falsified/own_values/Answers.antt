use Rattle.std.proofs.Common.{sym, ◌∙◌, ap, arith, append-nil, ◌++◌, List}
use Rattle.ioa_source.specs.TextView.{parameter_of}
use Rattle.ioa_values.specs.Data.{Data}
use Rattle.ioa_transitions.proofs.Arguments.{own_values_end}
use Rattle.ioa_reasons.proofs.falsified.own_values.Goals as goal

pub returns : goal.returns
returns c =
    let end = own_values_end parameter_of c.args.entry.now.parameters.items c.args.arguments.now c.loop-i.i (omega arith) in
    sym (append-nil c.loop-i.values.items) ∙ ap (λ (vs : List Data). c.loop-i.values.items ++ vs) (sym end) ∙ c.loop-i.invariant
