-- What is so of blocks that are laid as a log's.
use mathlib.Core.Path.{◌≡◌, refl, sym, ap, subst, ◌∙◌}
use mathlib.Core.List.{List, [], ◌∷◌, ◌++◌, append_assoc}
use Prim.Native.Nat.{ℕ, zero, suc, ◌+◌, ◌-◌, ◌*◌, ◌/◌, ◌%◌, ◌<◌, ◌≤◌}
use native.Mathlib.Omega.{arith}
use lib.Dec.{lit<}
use lib.ListN.{length, length-append, get_or, set}
use Rattle.std.specs.Prelude.{Option, slice_get, Some, None}
use Rattle.std.specs.Int.{div_ceil}
use Rattle.std.specs.Option.{option_copied}
use Rattle.std.specs.Slice.{IsItemAt}
use Rattle.std.specs.List.{AllByRecursion}
use Rattle.std.proofs.lemmas.Grind.{div_ceil_times}
use Rattle.std.proofs.lemmas.Option.{slice_get_past, slice_get_read}
use denote.Ref.{Bor}
use Rattle.std_collections.specs.Map.Iter.{TakesFirst, deref}
use Rattle.std_alloc.specs.declared.vec.Vec.{Vec}
use Rattle.ioa_rawlog.specs.Blocks.{joined, IsFilled, LaidFrom, IsLaid}

-- ---- of lists
get_before : {X : Type 0} (xs ys : List X) (n : ℕ) → n < length xs → slice_get (xs ++ ys) n ≡ slice_get xs n
get_before [] ys n less = absurd (omega arith)
get_before (x ∷ xs) ys zero less = refl
get_before (x ∷ xs) ys (suc n) less = get_before xs ys n (omega arith)

get_behind : {X : Type 0} (xs ys : List X) (n : ℕ) → length xs ≤ n → slice_get (xs ++ ys) n ≡ slice_get ys (n - length xs)
get_behind [] ys n more = ap (slice_get ys) (omega arith)
get_behind (x ∷ xs) ys zero more = absurd (omega arith)
get_behind (x ∷ xs) ys (suc n) more = get_behind xs ys n (omega arith) ∙ ap (slice_get ys) (omega arith)

get_alone : {X : Type 0} (xs : List X) (n : ℕ) → slice_get (xs ++ []) n ≡ slice_get xs n
get_alone [] n = refl
get_alone (x ∷ xs) zero = refl
get_alone (x ∷ xs) (suc n) = get_alone xs n

-- what `get` of a slice gives
pub item_copied : {X : Type 0} (xs : List X) (n : ℕ) (r : Option (Bor X)) → IsItemAt xs n r → option_copied r ≡ slice_get xs n
item_copied xs n None is = sym (slice_get_past xs n is.3)
item_copied xs n (Some x) is = sym (slice_get_read xs (length xs) n x.now refl is.3.0 is.1)

module _ {X A : Type 0} where
  -- ---- of the blocks behind the first
  pub laid_rest : (b : Vec X A) (bs : List (Vec X A)) → IsLaid (b ∷ bs) → IsLaid bs
  laid_rest b [] laid = tt
  laid_rest b (c ∷ cs) laid = laid.1

  laid_cons : (b : Vec X A) (bs : List (Vec X A)) → length b.items ≡ 64 → IsLaid bs → 0 < length bs → IsLaid (b ∷ bs)
  laid_cons b [] full laid more = absurd (omega arith)
  laid_cons b (c ∷ cs) full laid more = (full, laid)

  -- ---- how many there are
  laid_bounds : (b : Vec X A) (bs : List (Vec X A)) → LaidFrom b bs → (64 * length bs < length (joined (b ∷ bs))) × (length (joined (b ∷ bs)) ≤ 64 * length bs + 64)
  laid_bounds b [] laid =
      let long = length-append b.items [] in
      let some_items = laid.0 in
      let few = laid.1 in
      (omega arith, omega arith)
  laid_bounds b (c ∷ cs) laid =
      let long = length-append b.items (joined (c ∷ cs)) in
      let full = laid.0 in
      let behind = laid_bounds c cs laid.1 in
      let least = behind.0 in
      let most = behind.1 in
      (omega arith, omega arith)

  pub laid_count : (bs : List (Vec X A)) → IsLaid bs → div_ceil (length (joined bs)) 64 ≡ length bs
  laid_count [] laid = refl
  laid_count (b ∷ bs) laid =
      let bounds = laid_bounds b bs laid in
      let least = bounds.0 in
      let most = bounds.1 in
      let ceiling = div_ceil_times (length (joined (b ∷ bs))) 64 (lit< tt) in
      let above = ceiling.0 in
      let below = ceiling.1 in
      omega arith

  pub laid_none : (bs : List (Vec X A)) → IsLaid bs → length (joined bs) ≡ 0 → bs ≡ []
  laid_none [] laid none = refl
  laid_none (b ∷ bs) laid none =
      let least = (laid_bounds b bs laid).0 in
      absurd (omega arith)

  pub laid_some : (bs : List (Vec X A)) → 0 < length (joined bs) → 0 < length bs
  laid_some [] more = absurd (omega arith)
  laid_some (b ∷ bs) more = omega arith

  -- ---- each of them holds an item
  pub laid_filled : (bs : List (Vec X A)) → IsLaid bs → AllByRecursion IsFilled bs
  laid_filled [] laid = tt
  laid_filled (b ∷ []) laid = (laid.0, tt)
  laid_filled (b ∷ c ∷ cs) laid = let full = laid.0 in (omega arith, laid_filled (c ∷ cs) laid.1)

  -- ---- where an item lies
  pub past_block : (b : Vec X A) (bs : List (Vec X A)) (n : ℕ) → IsLaid (b ∷ bs) → 64 ≤ n → slice_get (joined (b ∷ bs)) n ≡ slice_get (joined bs) (n - 64)
  past_block b [] n laid past =
      let long = length-append b.items [] in
      let few = laid.1 in
      slice_get_past (b.items ++ []) n (omega arith)
  past_block b (c ∷ cs) n laid past =
      let full = laid.0 in
      get_behind b.items (joined (c ∷ cs)) n (omega arith) ∙ ap (λ k. slice_get (joined (c ∷ cs)) (n - k)) full

  pub in_block : (b : Vec X A) (bs : List (Vec X A)) (n : ℕ) → IsLaid (b ∷ bs) → n < 64 → slice_get (joined (b ∷ bs)) n ≡ slice_get b.items n
  in_block b [] n laid less = get_alone b.items n
  in_block b (c ∷ cs) n laid less = let full = laid.0 in get_before b.items (joined (c ∷ cs)) n (omega arith)

  -- one step of a walk from block to block leads 64 items on
  pub step_past : (r : Option (Bor (Vec X A))) (old new : List (Vec X A)) (i n : ℕ) → TakesFirst deref old r new → IsLaid old → n < i / 64
      → IsLaid new × (slice_get (joined new) (i - 64 * (n + 1)) ≡ slice_get (joined old) (i - 64 * n))
  step_past None old new i n gave laid more =
      let at = i - 64 * n in
      let behind = i - 64 * (n + 1) in
      (subst IsLaid (sym gave.1) tt, ap (λ l. slice_get (joined l) behind) gave.1 ∙ sym (ap (λ l. slice_get (joined l) at) gave.0))
  step_past (Some x) old new i n gave laid more =
      let at = i - 64 * n in
      let behind = i - 64 * (n + 1) in
      let whole = subst IsLaid gave laid in
      let found = ap (λ l. slice_get (joined l) at) gave ∙ past_block x.now new at whole (omega arith) ∙ ap (slice_get (joined new)) (omega arith) in
      (laid_rest x.now new whole, sym found)

  -- and behind the last step the block has the item
  pub step_onto : (x : Vec X A) (old new : List (Vec X A)) (i : ℕ) → old ≡ x ∷ new → IsLaid old
      → slice_get (joined old) (i - 64 * (i / 64)) ≡ slice_get x.items (i % 64)
  step_onto x old new i gave laid =
      ap (λ l. slice_get (joined l) (i - 64 * (i / 64))) gave ∙ in_block x new (i - 64 * (i / 64)) (subst IsLaid gave laid) (omega arith) ∙ ap (slice_get x.items) (omega arith)

  -- ---- the last block w has room where the items do not fill all blocks, and takes one more
  last_has_room : (b : Vec X A) (bs : List (Vec X A)) (w : Vec X A) → LaidFrom b bs → w ≡ get_or (b ∷ bs) (length bs) w → 0 < length (joined (b ∷ bs)) % 64 → length w.items < w.cap
  last_has_room b [] w laid is left =
      let long = length-append b.items [] in
      let few = laid.1 in
      let roomy = laid.2 in
      let same = ap (λ v. length v.items) is in
      let as_roomy = ap (λ v. v.cap) is in
      omega arith
  last_has_room b (c ∷ cs) w laid is left =
      let long = length-append b.items (joined (c ∷ cs)) in
      let full = laid.0 in
      last_has_room c cs w laid.1 is (omega arith)

  abbrev pub Grown : List (Vec X A) → List (Vec X A) → X → Type 0
  Grown old new x = IsLaid new × (joined new ≡ joined old ++ x ∷ []) × (length new ≡ length old)

  last_grows : (b : Vec X A) (bs : List (Vec X A)) (w v : Vec X A) (x : X) → LaidFrom b bs → w ≡ get_or (b ∷ bs) (length bs) w → 0 < length (joined (b ∷ bs)) % 64
      → v.items ≡ w.items ++ x ∷ [] → w.cap ≤ v.cap → Grown (b ∷ bs) (set (b ∷ bs) (length bs) v) x
  last_grows b [] w v x laid is left more roomier =
      let long = length-append b.items [] in
      let few = laid.1 in
      let roomy = laid.2 in
      let as_roomy = ap (λ v. v.cap) is in
      let items = more ∙ ap (λ u. u.items ++ x ∷ []) is in
      let longer = ap length items ∙ length-append b.items (x ∷ []) in (
        (omega arith, omega arith, omega arith),
        ap (λ ys. ys ++ []) items ∙ append_assoc b.items (x ∷ []) [] ∙ sym (append_assoc b.items [] (x ∷ [])),
        refl,
      )
  last_grows b (c ∷ cs) w v x laid is left more roomier =
      let long = length-append b.items (joined (c ∷ cs)) in
      let full = laid.0 in
      let behind = last_grows c cs w v x laid.1 is (omega arith) more roomier in
      let many = behind.2 in (
        laid_cons b (set (c ∷ cs) (length cs) v) full behind.0 (omega arith),
        ap (λ ys. b.items ++ ys) behind.1 ∙ sym (append_assoc b.items (joined (c ∷ cs)) (x ∷ [])),
        ap suc many,
      )

  -- ---- the same of all blocks
  pub last_room : (bs : List (Vec X A)) (w : Vec X A) → IsLaid bs → w ≡ get_or bs (length bs - 1) w → 0 < length (joined bs) % 64 → length w.items < w.cap
  last_room [] w laid is left = absurd (omega arith)
  last_room (b ∷ bs) w laid is left = last_has_room b bs w laid (is ∙ ap (λ k. get_or (b ∷ bs) k w) (omega arith)) left

  pub grown : (bs : List (Vec X A)) (w v : Vec X A) (x : X) → IsLaid bs → w ≡ get_or bs (length bs - 1) w → 0 < length (joined bs) % 64
      → v.items ≡ w.items ++ x ∷ [] → w.cap ≤ v.cap → Grown bs (set bs (length bs - 1) v) x
  grown [] w v x laid is left more roomier = absurd (omega arith)
  grown (b ∷ bs) w v x laid is left more roomier =
      let last : length bs ≡ length (b ∷ bs) - 1 = omega arith in
      subst (λ k. Grown (b ∷ bs) (set (b ∷ bs) k v) x) last (last_grows b bs w v x laid (is ∙ ap (λ k. get_or (b ∷ bs) k w) (sym last)) left more roomier)

  -- ---- a block that holds one item comes behind full ones
  pub laid_longer : (bs : List (Vec X A)) (b : Vec X A) (x : X) → IsLaid bs → length (joined bs) % 64 ≡ 0 → b.items ≡ x ∷ [] → 64 ≤ b.cap → IsLaid (bs ++ b ∷ [])
  laid_longer [] b x laid full one roomy =
      let single = ap length one in
      (omega arith, omega arith, roomy)
  laid_longer (c ∷ []) b x laid full one roomy =
      let long = length-append c.items [] in
      let some_items = laid.0 in
      let few = laid.1 in
      (omega arith, laid_longer [] b x tt refl one roomy)
  laid_longer (c ∷ d ∷ ds) b x laid full one roomy =
      let long = length-append c.items (joined (d ∷ ds)) in
      let all = laid.0 in
      (laid.0, laid_longer (d ∷ ds) b x laid.1 (omega arith) one roomy)

  pub joined_longer : (bs : List (Vec X A)) (b : Vec X A) (x : X) → b.items ≡ x ∷ [] → joined (bs ++ b ∷ []) ≡ joined bs ++ x ∷ []
  joined_longer [] b x one = ap (λ ys. ys ++ []) one
  joined_longer (c ∷ cs) b x one = ap (λ ys. c.items ++ ys) (joined_longer cs b x one) ∙ sym (append_assoc c.items (joined cs) (x ∷ []))
