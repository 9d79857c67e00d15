-- Commits that a worker has made, one after another.
use Rattle.std.proofs.Common.{◌≡◌, ◌≤◌, ◌<◌, ◌+◌, ◌*◌, ℕ, ℤ, Bool, true, false, if◌then◌else◌, List, [], ◌∷◌, ◌++◌, length, refl, sym, ap, subst, ◌∙◌, arith, append_assoc, length-append}
use Rattle.std.specs.Prelude.{filter, slice_set, sum_by}
use Rattle.std.specs.List.{AllByRecursion}
use Rattle.std.specs.Ordering.{int_eq}
use Rattle.std.proofs.Common.{get_or}
use Rattle.std.proofs.Math.Nat.{mul-add}
use Rattle.std.proofs.lemmas.List.{append-nil}
use Rattle.std.proofs.lemmas.List.Elements.{filter-append}
use Rattle.std.proofs.lemmas.List.Sums.{sum_by-append, sum_by-set}
use Rattle.ioa_actions.specs.ActionParts.{node_of}
use Rattle.ioa_receipts.specs.declared.receipts.Receipt.{Receipt}
use Rattle.ioa_solo.specs.Hands.{HasEarned, HasGained, HasGainedAt, receipts_of}

-- of one node, none is made
pub gained_at_none : (k : ℤ) (before left old new : ℕ) (had has : List Receipt) → left ≤ before → new ≡ old → has ≡ had → HasGainedAt k before left old new had has
gained_at_none k before left old new had has h share receipts =
    record { gained = []; receipts = receipts ∙ sym (append-nil had); share = omega (arith, share); own = tt; few = omega (arith, h) }

-- one is made
pub gained_at_one : (k : ℤ) (old new : ℕ) (had has : List Receipt) (r : Receipt) → new ≡ old + 1 → has ≡ had ++ r ∷ [] → node_of r.entry.action ≡ k → HasGainedAt k 1 0 old new had has
gained_at_one k old new had has r share receipts own =
    record { gained = r ∷ []; receipts = receipts; share = share; own = (own, tt); few = omega arith }

-- so many attempts, by how many are used
pub gained_at_within : (k j : ℤ) (a b c d s t : ℕ) (rs qs : List Receipt) → a + d ≤ c + b → k ≡ j → HasGainedAt k a b s t rs qs → HasGainedAt j c d s t rs qs
gained_at_within k j a b c d s t rs qs h same g = record {
  gained = g.gained;
  receipts = g.receipts;
  share = g.share;
  own = rw (← same) g.own;
  few = omega (arith, h, g.few);
}

-- of several nodes, none is made
pub gained_none : (before : (ℤ → Bool) → ℕ) (old new : ℕ) (had has : List Receipt) → new ≡ old → has ≡ had → HasGained before before old new had has
gained_none before old new had has share receipts =
    record { gained = []; receipts = receipts ∙ sym (append-nil had); share = omega (arith, share); few = λ those. omega arith }

-- whatever is left
pub gained_to_none : (a b : (ℤ → Bool) → ℕ) (s t : ℕ) (rs qs : List Receipt) → HasGained a b s t rs qs → HasGained a (λ _. 0) s t rs qs
gained_to_none a b s t rs qs h = record {
  gained = h.gained;
  receipts = h.receipts;
  share = h.share;
  few = λ those. let before = h.few those in omega (arith, before);
}

-- of two lists of receipts
of_both : (those : ℤ → Bool) (rs qs : List Receipt) → length (receipts_of those (rs ++ qs)) ≡ length (receipts_of those rs) + length (receipts_of those qs)
of_both those rs qs =
    ap length (filter-append (λ r. those (node_of r.entry.action)) rs qs)
    ∙ length-append (receipts_of those rs) (receipts_of those qs)

-- some are made, and then others
pub gained_more : (a b c : (ℤ → Bool) → ℕ) (s t u : ℕ) (rs qs ps : List Receipt) → HasGained a b s t rs qs → HasGained b c t u qs ps → HasGained a c s u rs ps
gained_more a b c s t u rs qs ps f g =
    let both = length-append f.gained g.gained in
    record {
      gained = f.gained ++ g.gained;
      receipts = g.receipts ∙ ap (λ (xs : List Receipt). xs ++ g.gained) f.receipts ∙ append_assoc rs f.gained g.gained;
      share = omega (arith, both, f.share, g.share);
      few = λ those. let counted = of_both those f.gained g.gained in let first = f.few those in let next = g.few those in omega (arith, counted, first, next);
    }

-- a test takes at most all of some receipts
at_most_all : (those : ℤ → Bool) (rs : List Receipt) → length (receipts_of those rs) ≤ length rs
at_most_all those [] = omega arith
at_most_all those (r ∷ rs) = by_test (those (node_of r.entry.action)) (at_most_all those rs)
  where
    by_test : (t : Bool) → length (receipts_of those rs) ≤ length rs → length (if t then r ∷ receipts_of those rs else receipts_of those rs) ≤ length (r ∷ rs)
    by_test true h = omega (arith, h)
    by_test false h = omega (arith, h)

-- and none of those of another node
none_of : (those : ℤ → Bool) (k : ℤ) → those k ≡ false → (rs : List Receipt) → AllByRecursion (λ r. node_of r.entry.action ≡ k) rs → length (receipts_of those rs) ≡ 0
none_of those k e [] own = refl
none_of those k e (r ∷ rs) own =
    let no : those (node_of r.entry.action) ≡ false = ap those own.0 ∙ e in
    rw no (none_of those k e rs own.1)

-- the receipts of one node, by a test
one_of : (those : ℤ → Bool) (k : ℤ) (before left : ℕ) (rs : List Receipt) → AllByRecursion (λ r. node_of r.entry.action ≡ k) rs → length rs + left ≤ before →
    length (receipts_of those rs) + (if those k then left else 0) ≤ (if those k then before else 0)
one_of those k before left rs own few = by_test (those k) refl
  where
    by_test : (t : Bool) → those k ≡ t → length (receipts_of those rs) + (if t then left else 0) ≤ (if t then before else 0)
    by_test true e = let all = at_most_all those rs in omega (arith, all, few)
    by_test false e = let none = none_of those k e rs own in omega (arith, none)

-- some are made, and then others of one of several nodes, by how many attempts the nodes have left
pub gained_at : {V : Type 0} (key : V → ℤ) (left : V → ℕ) (before : (ℤ → Bool) → ℕ) (places : List V) (i : ℕ) (v w : V) (s t u : ℕ) (rs qs ps : List Receipt) → i < length places → key w ≡ key (get_or places i v) →
    HasGained before (λ those. sum_by (λ n. if those (key n) then left n else 0) places) s t rs qs → HasGainedAt (key (get_or places i v)) (left (get_or places i v)) (left w) t u qs ps →
    HasGained before (λ those. sum_by (λ n. if those (key n) then left n else 0) (slice_set places i w)) s u rs ps
gained_at {V} key left before places i v w s t u rs qs ps within same first next =
    let both = length-append first.gained next.gained in
    record {
      gained = first.gained ++ next.gained;
      receipts = next.receipts ∙ ap (λ (xs : List Receipt). xs ++ next.gained) first.receipts ∙ append_assoc rs first.gained next.gained;
      share = omega (arith, both, first.share, next.share);
      few = each;
    }
  where
    x : V
    x = get_or places i v

    each : (those : ℤ → Bool) → length (receipts_of those (first.gained ++ next.gained)) + sum_by (λ n. if those (key n) then left n else 0) (slice_set places i w) ≤ before those
    each those =
        let f : V → ℕ = λ n. if those (key n) then left n else 0 in
        let counted : length (receipts_of those (first.gained ++ next.gained)) ≡ length (receipts_of those first.gained) + length (receipts_of those next.gained) = of_both those first.gained next.gained in
        let so_far : length (receipts_of those first.gained) + sum_by f places ≤ before those = first.few those in
        let own : length (receipts_of those next.gained) + (if those (key x) then left w else 0) ≤ f x = one_of those (key x) (left x) (left w) next.gained next.own next.few in
        let at_w : f w ≡ (if those (key x) then left w else 0) = ap (λ (k : ℤ). if those k then left w else 0) same in
        let here : sum_by f (slice_set places i w) + f x ≡ sum_by f places + f w = sum_by-set f places i w v within in
        omega (arith, counted, so_far, own, at_w, here)

-- all that a test takes which takes all
every_receipt : (rs : List Receipt) → receipts_of (λ _. true) rs ≡ rs
every_receipt [] = refl
every_receipt (r ∷ rs) = ap (λ (l : List Receipt). r ∷ l) (every_receipt rs)

every_number : (ns : List ℤ) → filter (λ (n : ℤ). true) ns ≡ ns
every_number [] = refl
every_number (n ∷ ns) = ap (λ (l : List ℤ). n ∷ l) (every_number ns)

not_more : (a b c : ℕ) → a + 0 ≤ b → b ≤ c → a ≤ c
not_more a b c h k = omega (arith, h, k)

-- what a worker gets for nodes of which each had so many attempts
earned : (attempts : ℕ) (nodes : List ℤ) (before : (ℤ → Bool) → ℕ) (s t : ℕ) (rs qs : List Receipt) → ((those : ℤ → Bool) → before those ≤ attempts * length (filter those nodes)) →
    HasGained before (λ _. 0) s t rs qs → HasEarned attempts nodes s t rs qs
earned attempts nodes before s t rs qs within h =
    let every : length (receipts_of (λ _. true) h.gained) ≤ attempts * length (filter (λ (n : ℤ). true) nodes) = not_more _ _ _ (h.few (λ _. true)) (within (λ _. true)) in
    record {
      earned = h.gained;
      receipts = h.receipts;
      share = h.share;
      each = λ k. not_more _ _ _ (h.few (λ n. int_eq n k)) (within (λ n. int_eq n k));
      all = rw (every_receipt h.gained, every_number nodes) at every;
    }

times_one : (a : ℕ) → a ≡ a * 1
times_one a = omega arith

times_none : (a : ℕ) → 0 ≡ a * 0
times_none a = omega arith

pub earned_of : {V : Type 0} (left : List V → (ℤ → Bool) → ℕ) (before lent : List V) (attempts : ℕ) (nodes : List ℤ) (s r t : ℕ) (rs ps qs : List Receipt) → HasGained (left lent) (λ _. 0) r t ps qs → r ≡ s → ps ≡ rs → lent ≡ before →
    ((those : ℤ → Bool) → left before those ≤ attempts * length (filter those nodes)) → HasEarned attempts nodes s t rs qs
earned_of {V} left before lent attempts nodes s r t rs ps qs h share receipts same within =
    let from : HasGained (left lent) (λ _. 0) s t rs qs = rw (share, receipts) at h in
    earned attempts nodes (left before) s t rs qs within (subst (λ (vs : List V). HasGained (left vs) (λ _. 0) s t rs qs) same from)

-- one node more before the first visit
pub left_push : {V : Type 0} (key : V → ℤ) (left : V → ℕ) (places : List V) (v : V) (k : ℤ) (attempts : ℕ) → key v ≡ k → left v ≡ attempts → (those : ℤ → Bool) →
    sum_by (λ n. if those (key n) then left n else 0) (places ++ v ∷ []) ≤ sum_by (λ n. if those (key n) then left n else 0) places + attempts * length (filter those (k ∷ []))
left_push {V} key left places v k attempts own all those =
    let f : V → ℕ = λ n. if those (key n) then left n else 0 in
    let both : sum_by f (places ++ v ∷ []) ≡ sum_by f places + (0 + f v) = sum_by-append f places (v ∷ []) in
    let at_v : f v ≡ (if those k then attempts else 0) = λ j. if those (own j) then all j else 0 in
    let one : (if those k then attempts else 0) ≡ attempts * length (filter those (k ∷ [])) = by_test (those k) in
    omega (arith, both, at_v, one)
  where
    by_test : (t : Bool) → (if t then attempts else 0) ≡ attempts * length (if t then k ∷ [] else [])
    by_test true = times_one attempts
    by_test false = times_none attempts

-- or none
pub left_same : (a b : ℕ) → a ≤ a + b
left_same a b = omega arith

-- the attempts of the numbers gone by, and of one more
pub left_more : (those : ℤ → Bool) (attempts a b : ℕ) (gone : List ℤ) (k : ℤ) → a ≤ attempts * length (filter those gone) → b ≤ a + attempts * length (filter those (k ∷ [])) → b ≤ attempts * length (filter those (gone ++ k ∷ []))
left_more those attempts a b gone k h g =
    let both : length (filter those (gone ++ k ∷ [])) ≡ length (filter those gone) + length (filter those (k ∷ [])) = ap length (filter-append those gone (k ∷ [])) ∙ length-append (filter those gone) (filter those (k ∷ [])) in
    let all : attempts * length (filter those (gone ++ k ∷ [])) ≡ attempts * length (filter those gone) + attempts * length (filter those (k ∷ [])) =
    ap (λ (n : ℕ). attempts * n) both ∙ mul-add attempts (length (filter those gone)) (length (filter those (k ∷ []))) in
    omega (arith, all, h, g)
