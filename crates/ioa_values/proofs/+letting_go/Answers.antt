use Rattle.std.proofs.Common.{rules, arith}
use Rattle.ioa_values.proofs.Falls.{most_items}
use Rattle.ioa_values.proofs.+letting_go.Goals as goal

-- the parts of a tuple are lighter than the value
pub value::Value::drop-drop-self-inside-requires : goal.value::Value::drop-drop-self-inside-requires
value::Value::drop-drop-self-inside-requires t c κs =
    (((grind (arith, most_items), tt), tt), (λ a h. search rules, λ a h. search rules))
