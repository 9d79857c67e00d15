use Rattle.std.proofs.Common.{[], ◌∙◌}
use Rattle.std.specs.Option.{option_and_then}
use Rattle.std.proofs.Common.{ap, slice_get}
use Rattle.ioa_reasons.proofs.FieldShapes.{field_found}
use Rattle.ioa_reasons.proofs.misfits.shape_among.Goals as goal

pub returns : goal.returns
returns c = field_found (λ s. s.now) c.shape_at.result c.args.field.now [] c.args.names.now.items c.args.shapes.now.items
    (c.shape_at.ensures ∙ ap (option_and_then (slice_get c.args.shapes.now.items)) c.position_of.ensures)
