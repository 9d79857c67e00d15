use Rattle.std.proofs.Common.{◌≡◌}
use Rattle.ioa_passes.specs.Passes.{first_older, raise_all}
use Rattle.ioa_passes.proofs.pass.Pass.shows_seen.Given as goal

-- what is gone by is not older and raises nothing: what is left says what all that was read does
abbrev pub invariant-loop-read : goal.invariant-loop-read
invariant-loop-read g l = record {
  fresh : first_older l.self.seen l.read-iterator ≡ first_older l.self.seen l.look.reads;
  same : raise_all l.read-iterator l.self.seen ≡ raise_all l.look.reads l.self.seen;
}
