use Rattle.std.proofs.Common.{◌≡◌, ◌∙◌, true, false, sym, rules}
use Rattle.ioa_values.specs.DataOrder.{same}
use Rattle.ioa_values.proofs.Steps.{found_here, found_later}
use Rattle.ioa_values.proofs.sequence.Sequence.position_of.Goals as goal

pub returns-then-eq : goal.returns-then-eq
returns-then-eq c =
    let alike : same c.args.value.now c.at.result.now ≡ true = search rules in
    sym (found_here c.args.value.now c.args.self.now c.loop-position.position c.at.result.now c.at.ensures alike)
    ∙ c.loop-position.invariant

pub loop-position-preserved : goal.loop-position-preserved
loop-position-preserved c =
    let apart : same c.args.value.now c.at.result.now ≡ false = search rules in
    sym (found_later c.args.value.now c.args.self.now c.loop-position.position c.at.result.now c.at.ensures apart)
    ∙ c.loop-position.invariant
