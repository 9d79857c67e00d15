-- How the items of a log lie in its blocks (profile).
use Rattle.core.specs.Prelude.{◌≡◌, ◌<◌, ◌≤◌, List, [], ◌∷◌, ◌++◌, length}
use Rattle.std_alloc.specs.Vec.{vec_capacity}
use Rattle.std_alloc.specs.declared.vec.Vec.{Vec}

module _ {X A : Type 0} where
  -- all items, block after block
  abbrev pub joined : List (Vec X A) → List X
  joined [] = []
  joined (b ∷ bs) = b.items ++ joined bs

  -- it holds an item
  abbrev pub IsFilled : Vec X A → Type 0
  IsFilled b = 0 < length b.items

  -- the last block: it holds an item, no more than 64, and has room for 64
  abbrev pub IsLast : Vec X A → Type 0
  IsLast b = IsFilled b × (length b.items ≤ 64) × (64 ≤ vec_capacity b)

  -- each block is full, and the last is a last one
  abbrev pub LaidFrom : Vec X A → List (Vec X A) → Type 0
  LaidFrom b [] = IsLast b
  LaidFrom b (c ∷ cs) = (length b.items ≡ 64) × LaidFrom c cs

  -- the blocks of a log, which has none where it is empty
  abbrev pub IsLaid : List (Vec X A) → Type 0
  IsLaid [] = Unit {0}
  IsLaid (b ∷ bs) = LaidFrom b bs
