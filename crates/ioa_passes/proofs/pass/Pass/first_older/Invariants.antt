use Rattle.std.proofs.Common.{◌≡◌}
use Rattle.ioa_passes.specs.Passes.{first_older}
use Rattle.ioa_passes.proofs.pass.Pass.first_older.Given as goal

-- the first that is older is to be found in what is left
abbrev pub invariant-loop-read : goal.invariant-loop-read
invariant-loop-read g l = first_older l.self.seen l.read-iterator ≡ first_older l.self.seen l.look.reads
