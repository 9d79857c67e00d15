use Rattle.ioa_sort_rules.proofs.Fields.{listed_same}
use Rattle.ioa_sort_rules.proofs.rows.field_among.Goals as goal

pub returns : goal.returns
returns c = rw (listed_same c.args.fields.now.items, ← c.position_of.ensures) c.field_at.ensures
