use Rattle.std.proofs.Common.{◌≡◌, ◌++◌, false, map, drop}
use Rattle.std.specs.Prelude.{string_bytes}
use Rattle.ioa_reasons.specs.PlainReasons.{named_value}
use Rattle.ioa_tell_text.specs.Tests.{values_text}
use Rattle.ioa_tell_text.proofs.tests.push_values.Given as goal

-- what is written so far and the values that are left are all of them
abbrev pub invariant-loop-named : goal.invariant-loop-named
invariant-loop-named l =
    string_bytes l.out ++ values_text l.names l.written (map named_value (drop l.named-index l.values))
    ≡ string_bytes l.initial.out ++ values_text l.names false (map named_value l.values)
