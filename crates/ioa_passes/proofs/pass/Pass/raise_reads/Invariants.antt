use Rattle.std.proofs.Common.{◌≡◌}
use Rattle.ioa_passes.specs.Passes.{raise_all}
use Rattle.ioa_passes.proofs.pass.Pass.raise_reads.Given as goal

-- what is left raises the pass to what all that was read does
abbrev pub invariant-loop-read : goal.invariant-loop-read
invariant-loop-read g l = record {
  left : raise_all l.read-iterator l.self.seen ≡ raise_all l.look.reads l.fn.self.seen;
  length : l.self.length ≡ l.fn.self.length;
}
