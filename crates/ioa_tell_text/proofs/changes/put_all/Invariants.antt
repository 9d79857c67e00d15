use Rattle.std.proofs.Common.{◌≡◌, false, drop, map}
use Rattle.ioa_source.specs.TextView.{variable_of}
use Rattle.ioa_paper.specs.Papers.{and_text}
use Rattle.ioa_tell_text.specs.Changes.{changes_behind, has_written}
use Rattle.ioa_tell_text.proofs.changes.put_all.Given as goal

-- what is written so far, and then the changes that are left
abbrev pub invariant-loop-position : goal.invariant-loop-position
invariant-loop-position g l = record {
  text : and_text l.paper (changes_behind l.names l.node l.written (drop l.position l.before) (drop l.position l.after) (map variable_of (drop l.position l.variables)))
      ≡ and_text l.initial.paper (changes_behind l.names l.node false l.before l.after (map variable_of l.variables));
  written : has_written l.written (drop l.position l.before) (drop l.position l.after) (map variable_of (drop l.position l.variables))
      ≡ has_written false l.before l.after (map variable_of l.variables);
}
