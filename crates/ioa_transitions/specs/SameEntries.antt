-- Whether two entries are the same (profile).
use Rattle.std.specs.Prelude.{Bool, ◌&&◌}
use Rattle.ioa_actions.specs.Actions.{same_action}
use Rattle.ioa_actions.specs.ValuesOrder.{all_same}
use Rattle.ioa_transitions.specs.Entries.{PlainEntry}

-- two entries are the same if their actions and the values that they chose are
abbrev pub same_entry : PlainEntry → PlainEntry → Bool
same_entry e f = same_action e.action f.action && all_same e.chosen f.chosen
