-- What a worker has of its own (profile): how many commits it has made, and what it got for them.
use Rattle.std.specs.Prelude.{◌≡◌, ◌≤◌, ◌+◌, ◌*◌, ℕ, ℤ, Bool, List, ◌++◌, filter, length}
use Rattle.std.specs.List.{AllByRecursion}
use Rattle.std.specs.Ordering.{int_eq}
use Rattle.ioa_actions.specs.ActionParts.{node_of}
use Rattle.ioa_receipts.specs.declared.receipts.Receipt.{Receipt}
use Rattle.ioa_solo.specs.declared.hand.Hand.{Hand}

-- commits that a worker has made with attempts of node k: its share has risen by their number, their receipts stand
-- behind those that it had, each is of an action of the node, and each has used one of the node's attempts
pub record HasGainedAt (k : ℤ) (before left old new : ℕ) (had has : List Receipt) : Type 0 where
  pub gained : List Receipt
  pub receipts : has ≡ had ++ gained
  pub share : new ≡ old + length gained
  pub own : AllByRecursion (λ r. node_of r.entry.action ≡ k) gained
  pub few : length gained + left ≤ before

-- the same of what a worker has: with so many attempts of the node before, of which so many are left
abbrev pub GainsAt : {L : Type 0} → ℤ → ℕ → ℕ → Hand L → Hand L → Type 0
GainsAt k before left old new = HasGainedAt k before left old.share new.share old.receipts.all new.receipts.all

-- those of some receipts that are of actions of the nodes whose numbers a test takes
abbrev pub receipts_of : (ℤ → Bool) → List Receipt → List Receipt
receipts_of those rs = filter (λ r. those (node_of r.entry.action)) rs

-- commits with attempts of several nodes, of which so many were left before, and so many are left, of the nodes whose
-- numbers a test takes: by each test, each commit for one of these nodes has used an attempt of one
pub record HasGained (before left : (ℤ → Bool) → ℕ) (old new : ℕ) (had has : List Receipt) : Type 0 where
  pub gained : List Receipt
  pub receipts : has ≡ had ++ gained
  pub share : new ≡ old + length gained
  pub few : (those : ℤ → Bool) → length (receipts_of those gained) + left those ≤ before those

abbrev pub Gains : {L : Type 0} → ((ℤ → Bool) → ℕ) → ((ℤ → Bool) → ℕ) → Hand L → Hand L → Type 0
Gains before left old new = HasGained before left old.share new.share old.receipts.all new.receipts.all

-- those of some numbers of nodes that are k
abbrev pub these_of : ℤ → List ℤ → List ℤ
these_of k nodes = filter (λ n. int_eq n k) nodes

-- what a worker gets for its work with the nodes of these numbers, each of which has so many attempts: its share has
-- risen by the number of receipts that stand behind those that it had. Of these at most so many are of actions of node
-- k, for each time that k is among the numbers: so if k is not among them, none
pub record HasEarned (attempts : ℕ) (nodes : List ℤ) (old new : ℕ) (had has : List Receipt) : Type 0 where
  pub earned : List Receipt
  pub receipts : has ≡ had ++ earned
  pub share : new ≡ old + length earned
  pub each : (k : ℤ) → length (receipts_of (λ n. int_eq n k) earned) ≤ attempts * length (these_of k nodes)
  pub all : length earned ≤ attempts * length nodes

-- the same of what a worker has
abbrev pub Earns : {L : Type 0} → ℕ → List ℤ → Hand L → Hand L → Type 0
Earns attempts nodes old new = HasEarned attempts nodes old.share new.share old.receipts.all new.receipts.all
