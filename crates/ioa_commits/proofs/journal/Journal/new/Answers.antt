use Rattle.std.proofs.Common.{rules}
use Rattle.ioa_commits.proofs.Commits.{kept_new}
use Rattle.ioa_commits.proofs.journal.Journal.new.Goals as goal

pub invariant_of-result : goal.invariant_of-result
invariant_of-result g c =
    (kept_new _ _ _ _ _ (search rules) (search rules) (search rules) (search rules), c.are_distinct-is_distinct.ensures)
