use Rattle.std.proofs.Common.{◌≡◌, map, take, string_bytes}
use Rattle.ioa_values.specs.Text.{text, with_commas}
use Rattle.ioa_actions.proofs.text.show_listed.Given as goal

-- what is written so far are the values gone by
abbrev pub invariant-loop-position : goal.invariant-loop-position
invariant-loop-position l = string_bytes l.list ≡ with_commas (map (text l.names) (take l.position l.values))
