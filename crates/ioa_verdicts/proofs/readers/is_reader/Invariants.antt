use Rattle.std.proofs.Common.{◌≡◌, drop}
use Rattle.std.specs.List.{list_any}
use Rattle.ioa_verdicts.specs.Readers.{reads_of}
use Rattle.ioa_verdicts.proofs.readers.is_reader.Given as goal

-- a name that reads of the component is one of those left
abbrev pub invariant-loop-name : goal.invariant-loop-name
invariant-loop-name l =
    list_any (reads_of l.component) (drop l.name-index l.fn.invariant.readings) ≡ list_any (reads_of l.component) l.fn.invariant.readings
