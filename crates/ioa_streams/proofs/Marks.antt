-- The mark between the two parts of an input.
use Rattle.std.proofs.Common.{◌≡◌, ◌<◌, ◌+◌, ℕ, suc, Bool, true, false, ◌&&◌, ◌||◌, if◌then◌else◌, List, [], ◌∷◌, Some, refl, length, slice_index, nat_eq, codes, arith}
use Rattle.std.specs.Prelude.{cond}
use Rattle.std.specs.List.{take_while}
use Rattle.std.specs.Str.{byte, bytes_eq}
use Rattle.std.proofs.lemmas.Bool.Decides.{nat_tests}
use Rattle.std.proofs.lemmas.List.Sums.{prefix_len-le-length, take_while-cons}
use Rattle.ioa_streams.specs.Parts.{is_in_line, is_mark, mark_from, mark_in}

-- what the code's first line needs
pub ruleset line_lemmas = (prefix_len-le-length)

-- the mark begins with a hyphen
mark_begins : (c : ℕ) (line : List ℕ) → is_mark (c ∷ line) ≡ true → c ≡ byte "-"
mark_begins c line h = by_first (nat_eq c (byte "-")) refl h
  where
    by_first : (b : Bool) → nat_eq c (byte "-") ≡ b
        → ((b && bytes_eq line (codes "--")) || (b && bytes_eq line (codes "--\r"))) ≡ true → c ≡ byte "-"
    by_first true e g = grind (arith, nat_tests)
    by_first false e g = absurd (cc)

first_hyphen : (c : ℕ) (more : List ℕ) → is_mark (take_while is_in_line (c ∷ more)) ≡ true → c ≡ byte "-"
first_hyphen c more h = by_line (is_in_line c) (rw (take_while-cons is_in_line c more) at h)
  where
    by_line : (b : Bool) → is_mark (cond b (c ∷ take_while is_in_line more) []) ≡ true → c ≡ byte "-"
    by_line true g = mark_begins c (take_while is_in_line more) g
    by_line false g = absurd (cc)

-- where a mark begins, so many places on, there is a hyphen
pub record IsMarked (place p : ℕ) (xs : List ℕ) : Type 0 where
  pub many : ℕ
  pub behind : p ≡ place + many
  pub within : many < length xs
  pub hyphen : slice_index xs many ≡ byte "-"

pub marked : (fresh : Bool) (place p : ℕ) (xs : List ℕ) → mark_from fresh place xs ≡ Some p → IsMarked place p xs
marked fresh place p [] h = absurd (cc)
marked fresh place p (c ∷ more) h =
    by_test (fresh && is_mark (take_while is_in_line (c ∷ more))) refl h (λ g. marked (nat_eq c 10) (place + 1) p more g)
  where
    by_both : (a b : Bool) → (a && b) ≡ true → b ≡ true
    by_both true b e = e
    by_both false b e = absurd (cc)

    by_test : (b : Bool) → (fresh && is_mark (take_while is_in_line (c ∷ more))) ≡ b
        → (if b then Some place else mark_from (nat_eq c 10) (place + 1) more) ≡ Some p
        → (mark_from (nat_eq c 10) (place + 1) more ≡ Some p → IsMarked (place + 1) p more)
        → IsMarked place p (c ∷ more)
    by_test true e g further =
        let here : place ≡ p = cc in
        record {
          many = 0;
          behind = omega arith;
          within = omega arith;
          hyphen = first_hyphen c more (by_both fresh (is_mark (take_while is_in_line (c ∷ more))) e);
        }
    by_test false e g further =
        let there : IsMarked (place + 1) p more = further g in
        record {
          many = suc there.many;
          behind = omega (arith, there.behind);
          within = omega (arith, there.within);
          hyphen = there.hyphen;
        }

-- so it stands within the input
pub mark_within : (p : ℕ) (input : List ℕ) → mark_in input ≡ Some p → p < length input
mark_within p input h =
    let m : IsMarked 0 p input = marked true 0 p input h in
    omega (arith, m.behind, m.within)

pub mark_hyphen : (p : ℕ) (input : List ℕ) → mark_in input ≡ Some p → slice_index input p ≡ byte "-"
mark_hyphen p input h =
    let m : IsMarked 0 p input = marked true 0 p input h in
    let same : p ≡ m.many = omega (arith, m.behind) in
    rw same m.hyphen
