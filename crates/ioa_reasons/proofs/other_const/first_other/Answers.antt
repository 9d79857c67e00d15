use Rattle.std.proofs.Common.{◌+◌, arith, sym, ◌∙◌}
use Rattle.ioa_source.specs.TextView.{parameter_of}
use Rattle.ioa_system.specs.InView.{given_bindings}
use Rattle.ioa_reasons.proofs.ConstsFound.{first_other_end}
use Rattle.ioa_reasons.proofs.other_const.first_other.Goals as goal

pub returns : goal.returns
returns c =
    let program = c.args.program.now in
    sym (first_other_end parameter_of (given_bindings program.automaton program.arguments) (c.loop-i.i + 1) c.args.parameters.now c.args.arguments.now c.loop-i.i (omega arith))
    ∙ c.loop-i.invariant.same
