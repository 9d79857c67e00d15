-- What is behind an item of a queue.
use Rattle.std.proofs.Common.{◌≡◌, Bool, true, false, List, [], ◌∷◌, ◌++◌, Result, Ok, Err, if◌then◌else◌, refl, ap}
use Rattle.std.specs.List.{list_any}
use Rattle.std.specs.Prelude.{◌||◌}
use Rattle.ioa_values.specs.Outcome.{and_then}
use Rattle.ioa_actions.specs.declared.fault.StepFault.{StepFault}
use Rattle.ioa_channels.specs.QueueSteps.{TakesOut}
use Rattle.std.specs.Prelude.{◌↔◌}
use Rattle.ioa_channels.specs.declared.queue.Item.{Item}
use Rattle.ioa_actions.specs.declared.fault.StepFault.TheVariants.{NotEnabled}
use Rattle.ioa_channels.specs.Queues.{same_item, items_behind, without_equal}
use Rattle.ioa_channels.specs.SameItems.{same_item_is}

-- there are items behind an item exactly if it is the first
pub items_behind_is : (x : Item) (items rest : List Item) → (items_behind x items ≡ Ok rest) ↔ (items ≡ x ∷ rest)
items_behind_is x [] rest = (λ h. absurd (cc), λ e. absurd (cc))
items_behind_is x (y ∷ more) rest = (by_test (same_item y x) refl, taken)
  where
    by_test : (t : Bool) → same_item y x ≡ t → (if t then Ok more else Err NotEnabled) ≡ Ok rest → y ∷ more ≡ x ∷ rest
    by_test true e h = let first : y ≡ x = (same_item_is y x).0 e in let last : more ≡ rest = cc in cc
    by_test false e h = absurd (cc)

    taken : y ∷ more ≡ x ∷ rest → (if same_item y x then Ok more else Err NotEnabled) ≡ Ok rest
    taken e =
        let first : y ≡ x = cc in
        let last : more ≡ rest = cc in
        let test : same_item y x ≡ true = (same_item_is y x).1 first in
        rw (test, last) refl

-- the first equal item is what is taken out
takes_out : (x : Item) (xs ys : List Item) → without_equal x xs ≡ Ok ys → TakesOut x xs ys
takes_out x [] ys h = absurd (cc)
takes_out x (y ∷ more) ys h = by_test (same_item x y) refl h (λ zs k. takes_out x more zs k)
  where
    by_rest : (r : Result (List Item) StepFault) → without_equal x more ≡ r → same_item x y ≡ false →
        and_then r (λ items. Ok (y ∷ items)) ≡ Ok ys →
        ((zs : List Item) → without_equal x more ≡ Ok zs → TakesOut x more zs) → TakesOut x (y ∷ more) ys
    by_rest (Ok zs) k e h further =
        let rest : y ∷ zs ≡ ys = cc in
        let there : TakesOut x more zs = further zs k in
        record {
          before = y ∷ there.before;
          behind = there.behind;
          whole = ap (λ (items : List Item). y ∷ items) there.whole;
          rest = rw (← rest) (ap (λ (items : List Item). y ∷ items) there.rest);
          first = rw e there.first;
        }
    by_rest (Err f) k e h further = absurd (cc)

    by_test : (t : Bool) → same_item x y ≡ t →
        (if t then Ok more else and_then (without_equal x more) (λ items. Ok (y ∷ items))) ≡ Ok ys →
        ((zs : List Item) → without_equal x more ≡ Ok zs → TakesOut x more zs) → TakesOut x (y ∷ more) ys
    by_test true e h further =
        let same_one : x ≡ y = (same_item_is x y).0 e in
        let left : more ≡ ys = cc in
        record { before = []; behind = more; whole = rw same_one refl; rest = rw left refl; first = refl }
    by_test false e h further = by_rest (without_equal x more) refl e h further

-- and what is taken out is the first equal item
found_behind : (x : Item) (before behind : List Item) → list_any (same_item x) before ≡ false →
    without_equal x (before ++ x ∷ behind) ≡ Ok (before ++ behind)
found_behind x [] behind h = let itself : same_item x x ≡ true = (same_item_is x x).1 refl in rw itself refl
found_behind x (y ∷ before) behind h = by_test (same_item x y) refl h (λ k. found_behind x before behind k)
  where
    by_test : (t : Bool) → same_item x y ≡ t → t || list_any (same_item x) before ≡ false →
        (list_any (same_item x) before ≡ false → without_equal x (before ++ x ∷ behind) ≡ Ok (before ++ behind)) →
        without_equal x (y ∷ (before ++ x ∷ behind)) ≡ Ok (y ∷ (before ++ behind))
    by_test true e h further = absurd (cc)
    by_test false e h further = rw (e, further h) refl

pub without_equal_is : (x : Item) (xs ys : List Item) → (without_equal x xs ≡ Ok ys) ↔ TakesOut x xs ys
without_equal_is x xs ys = (takes_out x xs ys, λ t. rw (t.whole, t.rest) (found_behind x t.before t.behind t.first))
