use Rattle.std.proofs.Common.{◌≡◌, ◌++◌, map, take, drop}
use Rattle.ioa_solo.specs.Solo.{short_of_memory}
use Rattle.ioa_solo.specs.Visits.{numbers_of, progress_in}
use Rattle.ioa_solo.proofs.going.end_all.Given as goal

-- the nodes gone by have ended, the others are as they were, and each has its number
abbrev pub invariant-loop-position : goal.invariant-loop-position
invariant-loop-position g l = record {
  ended : map progress_in (take l.position l.nodes) ++ map short_of_memory (map progress_in (drop l.position l.nodes))
      ≡ map short_of_memory (map progress_in l.initial.nodes);
  numbers : numbers_of l.nodes ≡ numbers_of l.initial.nodes;
}
