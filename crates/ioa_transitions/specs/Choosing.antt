-- The parts of an entry, as the code keeps them (view).
use Rattle.std.specs.Prelude.{List, [], Option, Some, None}
use Rattle.std.specs.Arc.{arc_value}
use Rattle.std.specs.declared.sync.Arc.{Arc}
use Rattle.std.specs.Global.{Vec}
use Rattle.std.specs.declared.alloc.Global.{Global}
use Rattle.ioa_values.specs.Data.{Data}
use Rattle.ioa_transitions.specs.Entries.{PlainEntry, entry}
use Rattle.ioa_transitions.specs.declared.entry.Step.{Step}

-- the values that an effect chose
abbrev pub values_chosen : Option (Arc (Vec Data) Global) → List Data
values_chosen None = []
values_chosen (Some vs) = (arc_value vs).items

-- the action and these values
abbrev pub plain_step : Step → PlainEntry
plain_step s = entry s.action (values_chosen s.chosen)
