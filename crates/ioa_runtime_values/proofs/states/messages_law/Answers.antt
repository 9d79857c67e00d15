use Rattle.std.proofs.Common.{arith, sym}
use Rattle.std.proofs.lemmas.Option.{get_or_from_slice_get}
use Rattle.ioa_values.proofs.AllOf.{all_more}
use Rattle.ioa_values.specs.Canonical.{IsCanonical}
use Rattle.ioa_printed_lines.specs.TextSystems.{IsBounded}
use Rattle.ioa_runtime_values.proofs.states.messages_law.Goals as goal

pub loop-position-preserved : goal.loop-position-preserved
loop-position-preserved c =
    let here = sym (get_or_from_slice_get c.args.messages.now c.loop-position.position c.at-message.result.now c.at-message.result.now c.at-message.ensures) in
    let gone = c.loop-position.invariant in
    record {
      bounded = all_more IsBounded c.args.messages.now c.loop-position.position c.at-message.result.now gone.bounded c.bounded_law.ensures (omega arith) here;
      canonical = all_more IsCanonical c.args.messages.now c.loop-position.position c.at-message.result.now gone.canonical c.canonical_law.ensures (omega arith) here;
    }
