-- Where the lines of a schedule end in a report.
use Rattle.std.proofs.Common.{◌≡◌, ◌<◌, ◌+◌, ℕ, suc, Bool, true, false, ◌&&◌, not, if◌then◌else◌, List, [], ◌∷◌, Some, refl, length, slice_index, nat_eq, arith}
use Rattle.std.proofs.lemmas.Bool.Decides.{nat_tests}
use Rattle.ioa_streams.specs.ScheduleParts.{begins_with_digit, end_from, end_in}

-- where the lines end, so many places on, there is a line feed
pub record IsEnd (place p : ℕ) (xs : List ℕ) : Type 0 where
  pub many : ℕ
  pub behind : p ≡ place + many
  pub within : many < length xs
  pub feed : slice_index xs many ≡ 10

pub ended : (place p : ℕ) (xs : List ℕ) → end_from place xs ≡ Some p → IsEnd place p xs
ended place p [] h = absurd (cc)
ended place p (c ∷ more) h =
    by_tests (nat_eq c 10) (not (begins_with_digit more)) refl h (λ g. ended (place + 1) p more g)
  where
    further_on : IsEnd (place + 1) p more → IsEnd place p (c ∷ more)
    further_on there = record {
      many = suc there.many;
      behind = omega (arith, there.behind);
      within = omega (arith, there.within);
      feed = there.feed;
    }

    by_tests : (a b : Bool) → nat_eq c 10 ≡ a
        → (if a && b then Some place else end_from (place + 1) more) ≡ Some p
        → (end_from (place + 1) more ≡ Some p → IsEnd (place + 1) p more) → IsEnd place p (c ∷ more)
    by_tests true true e g further =
        let here : place ≡ p = cc in
        record {
          many = 0;
          behind = omega arith;
          within = omega arith;
          feed = grind (arith, nat_tests);
        }
    by_tests true false e g further = further_on (further g)
    by_tests false b e g further = further_on (further g)

-- so it stands within the lines
pub end_within : (p : ℕ) (xs : List ℕ) → end_in xs ≡ Some p → p < length xs
end_within p xs h =
    let e = ended 0 p xs h in
    omega (arith, e.behind, e.within)

-- and is a line feed
pub end_feed : (p : ℕ) (xs : List ℕ) → end_in xs ≡ Some p → slice_index xs p ≡ 10
end_feed p xs h =
    let e = ended 0 p xs h in
    let same : p ≡ e.many = omega (arith, e.behind) in
    rw same e.feed
