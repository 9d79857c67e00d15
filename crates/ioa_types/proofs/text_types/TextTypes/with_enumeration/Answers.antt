use Rattle.std.proofs.Common.{rules}
use Rattle.ioa_source.specs.PlainText.{enumeration}
use Rattle.ioa_types.specs.TextTypes.{text_types}
use Rattle.ioa_types.proofs.Meant.{type_added}
use Rattle.ioa_types.proofs.text_types.TextTypes.with_enumeration.Goals as goal

pub invariant_of-result : goal.invariant_of-result
invariant_of-result c =
    type_added (text_types c.self.inside.types c.self.inside.constants) (text_types c.in_ok-types.types c.in_ok-constants.constants) (record { name = c.args.name.now; form = enumeration c.args.constants.now.items }) c.self.invariant (search rules)
