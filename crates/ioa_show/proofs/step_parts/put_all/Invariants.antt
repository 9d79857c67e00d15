use Rattle.std.proofs.Common.{◌≡◌, false, drop, map}
use Rattle.ioa_source.specs.TextView.{variable_of}
use Rattle.ioa_paper.specs.Papers.{and_text}
use Rattle.ioa_show.specs.Steps.{changes_behind}
use Rattle.ioa_show.proofs.step_parts.put_all.Given as goal

-- what is written so far, and then the changes that are left
abbrev pub invariant-loop-position : goal.invariant-loop-position
invariant-loop-position g l =
    and_text l.paper (changes_behind l.names l.behind (drop l.position l.before) (drop l.position l.after) (map variable_of (drop l.position l.variables)))
    ≡ and_text l.initial.paper (changes_behind l.names false l.before l.after (map variable_of l.variables))
