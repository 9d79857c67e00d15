use Rattle.std.proofs.Common.{◌≡◌, drop}
use Rattle.ioa_types.specs.TextTypes.{with_constants}
use Rattle.ioa_types.proofs.text_types.with_constants.Given as goal

-- all constants are those so far with those that are left
abbrev pub invariant-loop-constant : goal.invariant-loop-constant
invariant-loop-constant l =
    with_constants l.fn.before l.shape l.constants.items ≡ with_constants l.table l.shape (drop l.constant-index l.constant-items)
