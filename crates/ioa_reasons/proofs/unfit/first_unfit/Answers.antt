use Rattle.std.proofs.Common.{arith, sym, ◌∙◌}
use Rattle.ioa_source.specs.TextView.{parameter_of}
use Rattle.ioa_reasons.proofs.UnfitFound.{first_unfit_end}
use Rattle.ioa_reasons.proofs.unfit.first_unfit.Goals as goal

pub returns : goal.returns
returns c = sym (first_unfit_end parameter_of c.args.parameters.now c.args.arguments.now c.loop-i.i (omega arith)) ∙ c.loop-i.invariant
