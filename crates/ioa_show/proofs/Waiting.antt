-- The first send that waits with a message, by its place.
use Rattle.std.proofs.Common.{◌≡◌, ◌∙◌, ℕ, suc, ◌+◌, ◌-◌, ◌<◌, ◌≤◌, Bool, true, false, if◌then◌else◌, List, [], ◌∷◌, ◌++◌, Option, Some, None, refl, sym, ap, length, get_or, map, arith}
use Rattle.std.specs.Prelude.{remove}
use Rattle.std.specs.List.{position_from}
use Rattle.std.proofs.lemmas.List.{map-append}
use Rattle.ioa_values.specs.Data.{Data}
use Rattle.ioa_show.specs.Matching.{first_of, rest_of}
use Rattle.ioa_show.specs.Traffics.{has_message, sent_of}
use Rattle.ioa_show.specs.declared.partners.Waiting.{Waiting}

-- one more send waits behind the others
pub one_more : (ws : List Waiting) (w : Waiting) → map sent_of (ws ++ w ∷ []) ≡ map sent_of ws ++ sent_of w ∷ []
one_more ws w = map-append sent_of ws (w ∷ [])

-- the first send with a message is `k - n` places on
record IsFirst (m : Data) (ws : List Waiting) (n k : ℕ) : Type 0 where
  behind : n ≤ k
  within : k - n < length ws
  position : (d : Waiting) → first_of m (map sent_of ws) ≡ Some (get_or ws (k - n) d).position
  others : rest_of m (map sent_of ws) ≡ map sent_of (remove ws (k - n))

-- behind another send the place is one further on
next_first : (m : Data) (w : Waiting) (ws : List Waiting) (n k : ℕ) → has_message m w ≡ false → IsFirst m ws (n + 1) k → IsFirst m (w ∷ ws) n k
next_first m w ws n k e p =
    let further : k - n ≡ suc (k - (n + 1)) = omega (arith, p.behind) in
    record {
      behind = omega (arith, p.behind);
      within = rw further (omega (arith, p.within));
      position = λ d. rw (further, e) (p.position d);
      others = rw (further, e) (ap (λ (xs : List (ℕ × Data)). sent_of w ∷ xs) p.others);
    }

here_first : (m : Data) (w : Waiting) (ws : List Waiting) (n k : ℕ) → n ≡ k → has_message m w ≡ true → IsFirst m (w ∷ ws) n k
here_first m w ws n k s e =
    let first : k - n ≡ 0 = omega (arith, s) in
    record {
      behind = omega (arith, s);
      within = rw first (omega arith);
      position = λ d. rw (first, e) refl;
      others = rw (first, e) refl;
    }

first_at : (m : Data) (ws : List Waiting) (n k : ℕ) → position_from (λ w. has_message m w) n ws ≡ Some k → IsFirst m ws n k
first_at m [] n k h = absurd (cc)
first_at m (w ∷ ws) n k h = by_test (has_message m w) refl h (λ l. first_at m ws (n + 1) k l)
  where
    by_test : (b : Bool) → has_message m w ≡ b → (if b then Some n else position_from (λ w. has_message m w) (n + 1) ws) ≡ Some k →
        (position_from (λ w. has_message m w) (n + 1) ws ≡ Some k → IsFirst m ws (n + 1) k) → IsFirst m (w ∷ ws) n k
    by_test true e h more = here_first m w ws n k (cc) e
    by_test false e h more = next_first m w ws n k e (more h)

module _ (m : Data) (ws : List Waiting) where
  -- the place is one of the list, and what stands there is the first
  pub first-within : (k : ℕ) → Some k ≡ position_from (λ w. has_message m w) 0 ws → k < length ws
  first-within k h = let p : IsFirst m ws 0 k = first_at m ws 0 k (sym h) in omega (arith, p.within)

  pub first_there : (k : ℕ) (d : Waiting) → Some k ≡ position_from (λ w. has_message m w) 0 ws → first_of m (map sent_of ws) ≡ Some (get_or ws k d).position
  first_there k d h = let p : IsFirst m ws 0 k = first_at m ws 0 k (sym h) in let here : k ≡ k - 0 = omega arith in rw here (p.position d)

  pub others_there : (k : ℕ) → Some k ≡ position_from (λ w. has_message m w) 0 ws → rest_of m (map sent_of ws) ≡ map sent_of (remove ws k)
  others_there k h = let p : IsFirst m ws 0 k = first_at m ws 0 k (sym h) in let here : k ≡ k - 0 = omega arith in rw here p.others

-- without a place no send has the message
pub none_there : (m : Data) (ws : List Waiting) (n : ℕ) → None ≡ position_from (λ w. has_message m w) n ws →
    (first_of m (map sent_of ws) ≡ None) × (rest_of m (map sent_of ws) ≡ map sent_of ws)
none_there m [] n h = (refl, refl)
none_there m (w ∷ ws) n h = by_test (has_message m w) refl h (λ l. none_there m ws (n + 1) l)
  where
    by_test : (b : Bool) → has_message m w ≡ b → None ≡ (if b then Some n else position_from (λ w. has_message m w) (n + 1) ws) →
        (None ≡ position_from (λ w. has_message m w) (n + 1) ws → (first_of m (map sent_of ws) ≡ None) × (rest_of m (map sent_of ws) ≡ map sent_of ws)) →
        (first_of m (map sent_of (w ∷ ws)) ≡ None) × (rest_of m (map sent_of (w ∷ ws)) ≡ map sent_of (w ∷ ws))
    by_test true e h more = absurd (cc)
    by_test false e h more = let there = more h in (rw e there.0, rw e (ap (λ (xs : List (ℕ × Data)). sent_of w ∷ xs) there.1))
