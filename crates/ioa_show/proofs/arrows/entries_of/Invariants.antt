use Rattle.std.proofs.Common.{◌≡◌, ◌++◌, map}
use Rattle.ioa_show.proofs.arrows.entries_of.Given as goal

-- the entries that are passed, and then those that are left
abbrev pub invariant-loop-entry : goal.invariant-loop-entry
invariant-loop-entry l = map (λ e. e.now) l.entries.items ++ l.entry-iterator ≡ l.schedule
