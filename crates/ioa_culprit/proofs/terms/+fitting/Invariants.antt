use Rattle.std.proofs.Common.{◌+◌, ◌*◌}
use Rattle.ioa_culprit.proofs.terms.+fitting.Given as goal

-- a call on a part is of a smaller term; among calls on one term or on the same terms the rank counts down
abbrev pub decreases-pass_fit : goal.decreases-pass_fit
decreases-pass_fit l = 4 * goal.size-pass_fit l

abbrev pub decreases-pass_all : goal.decreases-pass_all
decreases-pass_all l = 4 * goal.size-pass_all l + 1

abbrev pub decreases-pass_each : goal.decreases-pass_each
decreases-pass_each l = 4 * goal.size-pass_each l + 2

abbrev pub decreases-pass_items : goal.decreases-pass_items
decreases-pass_items l = 4 * goal.size-pass_items l + 3
