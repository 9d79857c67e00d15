-- The nodes of a worker, as the code keeps them (view).
use Rattle.std.specs.Prelude.{ℕ, ℤ, Bool, if◌then◌else◌, List, map, sum_by}
use Rattle.ioa_sharing.specs.declared.named.Origin as Origin
use Rattle.ioa_turns.specs.NodeTurns.{PlainProgress, progress_of}
use Rattle.ioa_solo.specs.declared.visited.Visited.{Visited}

-- how far a node has come; the last look at it is nothing that a run is of
abbrev pub progress_in : {O : Type 0} {g : Origin.Ghosts O} → Visited O g → PlainProgress
progress_in n = progress_of n.progress

-- a node of a worker: its number, and how far it has come
pub record PlainVisited : Type 0 where
  pub number : ℤ
  pub progress : PlainProgress

abbrev pub visited_of : {O : Type 0} {g : Origin.Ghosts O} → Visited O g → PlainVisited
visited_of n = record { number = n.number; progress = progress_in n }

-- the number of a node, which its program has
abbrev pub number_in : {O : Type 0} {g : Origin.Ghosts O} → Visited O g → ℤ
number_in n = (progress_in n).program.node

-- how many attempts some nodes have left, of those whose numbers a test takes
abbrev pub attempts_left : {O : Type 0} {g : Origin.Ghosts O} → List (Visited O g) → (ℤ → Bool) → ℕ
attempts_left nodes those = sum_by (λ n. if those (number_in n) then n.progress.attempts else 0) nodes

-- the numbers of some nodes
abbrev pub numbers_of : {O : Type 0} {g : Origin.Ghosts O} → List (Visited O g) → List ℤ
numbers_of nodes = map (λ n. n.number) nodes
