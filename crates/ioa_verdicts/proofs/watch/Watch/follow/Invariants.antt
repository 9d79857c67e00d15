use Rattle.std.proofs.Common.{◌≡◌, ◌+◌, length, map}
use Rattle.ioa_verdicts.specs.Places.{ArePlaces}
use Rattle.ioa_verdicts.proofs.Watched.{AreWatched}
use Rattle.ioa_verdicts.proofs.watch.Watch.follow.Given as goal

-- the entries that are passed are counted, no name reads elsewhere, and each verdict is watched
abbrev pub invariant-loop-entry : goal.invariant-loop-entry
invariant-loop-entry l = record {
  counted : l.passed + length l.entry-iterator ≡ length l.schedule;
  placed : ArePlaces (map (λ ps. ps.items) l.self.placed.places.now) l.self.placed.invariants.now l.course;
  watched : AreWatched l.self.placed.invariants.now (map (λ is. is.items) l.self.noted.now) l.schedule l.initial.course l.passed l.entry-iterator l.course l.findings;
}
