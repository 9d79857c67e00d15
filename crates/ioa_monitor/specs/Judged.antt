-- What is said of a schedule, with the verdicts on the invariants along it (profile).
use Rattle.std.specs.Prelude.{ℕ, Bool, if◌then◌else◌, List, [], ◌++◌}
use Rattle.ioa_system.specs.Systems.{SystemParts}
use Rattle.ioa_transitions.specs.Entries.{PlainEntry}
use Rattle.ioa_verdicts.specs.Verdicts.{verdicts_of}
use Rattle.ioa_monitor.specs.Findings.{findings_of}
use Rattle.ioa_monitor.specs.Reports.{invariant_lines}
use Rattle.ioa_monitor.specs.declared.findings.Findings.{Findings}

-- the verdicts on the invariants of a system along a schedule, as a report has them
abbrev pub verdict_lines : SystemParts → List PlainEntry → List ℕ
verdict_lines s entries = invariant_lines s.invariants (verdicts_of s entries)

-- a text, and behind it the verdicts if they are to be told
abbrev pub judged_text : List ℕ → Bool → SystemParts → List PlainEntry → List ℕ
judged_text head is_told s entries = if is_told then head ++ verdict_lines s entries else head

-- what the verdicts along a schedule come to: it has no endings
abbrev pub schedule_findings : SystemParts → List PlainEntry → Findings
schedule_findings s entries = findings_of [] (verdicts_of s entries)
