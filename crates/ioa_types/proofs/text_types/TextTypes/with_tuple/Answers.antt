use Rattle.std.proofs.Common.{map, rules}
use Rattle.ioa_source.specs.PlainText.{tuple_of}
use Rattle.ioa_source.specs.TextView.{declared_of}
use Rattle.ioa_types.specs.TextTypes.{text_types}
use Rattle.ioa_types.proofs.Meant.{type_added}
use Rattle.ioa_types.proofs.text_types.TextTypes.with_tuple.Goals as goal

pub invariant_of-result : goal.invariant_of-result
invariant_of-result c =
    type_added (text_types c.self.inside.types c.self.inside.constants) (text_types c.in_ok-types.types c.self.inside.constants) (record { name = c.args.name.now; form = tuple_of (map declared_of c.args.fields.now.items) }) c.self.invariant (search rules)
