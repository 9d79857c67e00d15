use Rattle.std.proofs.Common.{◌≡◌, take}
use Rattle.ioa_compose.specs.Executions.{projection_of}
use Rattle.ioa_compose.proofs.projection.project.Given as goal

-- what is kept so far is the projection of the entries gone by
abbrev pub invariant-loop-entry : goal.invariant-loop-entry
invariant-loop-entry l = l.kept.items ≡ projection_of l.component (take l.entry-index l.entries)
