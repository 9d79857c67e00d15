use Rattle.std.proofs.Common.{◌∙◌}
use Rattle.ioa_verdicts.proofs.Slots.{first_slot}
use Rattle.ioa_verdicts.proofs.places.slot_named.Goals as goal

pub returns : goal.returns
returns c = c.place_named.ensures ∙ first_slot c.args.name.now c.args.variables.now
