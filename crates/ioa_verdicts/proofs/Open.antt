-- How many verdicts are open.
use Rattle.std.proofs.Common.{◌≡◌, ℕ, zero, suc, ◌+◌, ◌<◌, ◌≤◌, Bool, true, false, ◌||◌, List, [], ◌∷◌, ◌++◌, Option, Some, None, refl, ap, set, length, arith, if◌then◌else◌}
use Rattle.std.specs.Prelude.{slice_get}
use Rattle.std.specs.List.{list_any}
use Rattle.ioa_verdicts.specs.Open.{is_open_at, open_count}
use Rattle.ioa_verdicts.specs.Verdicts.{is_open}
use Rattle.ioa_verdicts.specs.declared.verdict.Verdict.{Verdict}
use Rattle.ioa_verdicts.specs.declared.verdict.Verdict.TheVariants.{Holds, Fails, Undefined, Range}

-- an open verdict says that the invariant holds
pub holds_if_open : (o : Option Verdict) → is_open_at o ≡ true → o ≡ Some Holds
holds_if_open None h = absurd (cc)
holds_if_open (Some Holds) h = refl
holds_if_open (Some (Fails k)) h = absurd (cc)
holds_if_open (Some (Undefined k)) h = absurd (cc)
holds_if_open (Some (Range k)) h = absurd (cc)

-- an open verdict in a place counts
pub open_there : (fs : List Verdict) (i : ℕ) → slice_get fs i ≡ Some Holds → 0 < open_count fs
unfolding open_count
open_there [] i h = absurd (cc)
open_there (f ∷ fs) zero h = let this : f ≡ Holds = cc in rw this (omega arith)
open_there (f ∷ fs) (suc i) h = let more : 0 < open_count fs = open_there fs i h in omega arith

-- one that closes is one less
pub open_closed : (fs : List Verdict) (i : ℕ) (w : Verdict) → slice_get fs i ≡ Some Holds → is_open w ≡ false → open_count (set fs i w) + 1 ≡ open_count fs
unfolding open_count
open_closed [] i w h e = absurd (cc)
open_closed (f ∷ fs) zero w h e = let this : f ≡ Holds = cc in rw (this, e) (omega arith)
open_closed (f ∷ fs) (suc i) w h e = let more : open_count (set fs i w) + 1 ≡ open_count fs = open_closed fs i w h e in omega arith

-- one more verdict
pub open_pushed : (fs : List Verdict) (w : Verdict) → open_count (fs ++ w ∷ []) ≡ open_count fs + (if is_open w then 1 else 0)
unfolding open_count
open_pushed [] w = omega arith
open_pushed (f ∷ fs) w = let more : open_count (fs ++ w ∷ []) ≡ open_count fs + (if is_open w then 1 else 0) = open_pushed fs w in omega arith

-- no more are open than there are
pub open_within : (fs : List Verdict) → open_count fs ≤ length fs
unfolding open_count
open_within [] = omega arith
open_within (f ∷ fs) = by_test (is_open f) (open_within fs)
  where
    by_test : (b : Bool) → open_count fs ≤ length fs → (if b then 1 else 0) + open_count fs ≤ suc (length fs)
    by_test true h = omega arith
    by_test false h = omega arith

-- if some are open, one is, and else none
pub any_open : (fs : List Verdict) → 0 < open_count fs → list_any is_open fs ≡ true
unfolding open_count
any_open [] h = absurd (omega arith)
any_open (f ∷ fs) h = by_test (is_open f) h (λ g. any_open fs g)
  where
    by_test : (b : Bool) → 0 < (if b then 1 else 0) + open_count fs → (0 < open_count fs → list_any is_open fs ≡ true) → (b || list_any is_open fs) ≡ true
    by_test true h further = refl
    by_test false h further = further (omega arith)

pub none_open : (fs : List Verdict) → open_count fs ≤ 0 → list_any is_open fs ≡ false
unfolding open_count
none_open [] h = refl
none_open (f ∷ fs) h = by_test (is_open f) h (λ g. none_open fs g)
  where
    by_test : (b : Bool) → (if b then 1 else 0) + open_count fs ≤ 0 → (open_count fs ≤ 0 → list_any is_open fs ≡ false) → (b || list_any is_open fs) ≡ false
    by_test true h further = absurd (omega arith)
    by_test false h further = further (omega arith)

-- an open verdict that stays open is the same
pub set_open : (fs : List Verdict) (i : ℕ) (w : Verdict) → slice_get fs i ≡ Some Holds → is_open w ≡ true → set fs i w ≡ fs
set_open [] i w h e = absurd (cc)
set_open (f ∷ fs) zero Holds h e = let this : f ≡ Holds = cc in rw this refl
set_open (f ∷ fs) zero (Fails k) h e = absurd (cc)
set_open (f ∷ fs) zero (Undefined k) h e = absurd (cc)
set_open (f ∷ fs) zero (Range k) h e = absurd (cc)
set_open (f ∷ fs) (suc i) w h e = ap (λ (gs : List Verdict). f ∷ gs) (set_open fs i w h e)
