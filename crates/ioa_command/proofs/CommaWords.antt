-- The words between commas, one after the other.
use Rattle.std.proofs.Common.{◌≡◌, ◌<◌, ◌+◌, ℕ, suc, Bool, true, false, List, [], ◌∷◌, refl, length, take, drop, nat_eq, arith}
use Rattle.std.specs.Prelude.{cond, not, Option, Some, None, option_and_then}
use Rattle.std.specs.List.{after_first, before_first, position_or_len}
use Rattle.ioa_monitor.specs.declared.findings.Findings.{Findings}
use Rattle.ioa_command.specs.FailOn.{findings_of_all, in_front, with_finding, words_between}

-- how many bytes come before the first comma
abbrev before : List ℕ → ℕ
before xs = position_or_len (λ b. nat_eq b 44) xs

-- a byte in front of a text that is a word and others
step : (c : ℕ) (more : List ℕ) (n p q : ℕ) → p ≡ suc n → q ≡ suc (n + 1)
    → words_between more ≡ take n more ∷ words_between (drop (n + 1) more)
    → in_front c (words_between more) ≡ take p (c ∷ more) ∷ words_between (drop q (c ∷ more))
step c more n p q a b h = rw (a, b, h) refl

-- a text with a comma has the word before it first, and then those behind it
pub words_split : (xs : List ℕ) → position_or_len (λ b. nat_eq b 44) xs < length xs
    → words_between xs ≡ before_first (λ b. nat_eq b 44) xs ∷ words_between (after_first (λ b. nat_eq b 44) xs)
words_split [] h = absurd (omega (arith, h))
words_split (c ∷ more) h = by_test (nat_eq c 44) h (λ g. words_split more g)
  where
    by_test : (b : Bool) → cond (not b) (1 + before more) 0 < suc (length more)
        → (before more < length more → words_between more
        ≡ take (before more) more ∷ words_between (drop (before more + 1) more))
        → cond b ([] ∷ words_between more) (in_front c (words_between more))
        ≡ take (cond (not b) (1 + before more) 0) (c ∷ more)
        ∷ words_between (drop (cond (not b) (1 + before more) 0 + 1) (c ∷ more))
    by_test true g further = refl
    by_test false g further =
        step c more (before more) (1 + before more) (1 + before more + 1) (omega arith) (omega arith)
        (further (omega (arith, g)))

-- and one without is a word
pub one_word : (xs : List ℕ) → position_or_len (λ b. nat_eq b 44) xs ≡ length xs → words_between xs ≡ xs ∷ []
one_word [] h = refl
one_word (c ∷ more) h = by_test (nat_eq c 44) h (λ g. one_word more g)
  where
    by_test : (b : Bool) → cond (not b) (1 + before more) 0 ≡ suc (length more)
        → (before more ≡ length more → words_between more ≡ more ∷ [])
        → cond b ([] ∷ words_between more) (in_front c (words_between more)) ≡ (c ∷ more) ∷ []
    by_test true g further = absurd (omega (arith, g))
    by_test false g further = rw (further (omega (arith, g))) refl

-- the findings that names have, if a comma stands behind the first
pub all_split : (names name more : List ℕ) (before : Findings)
    → position_or_len (λ b. nat_eq b 44) names < length names
    → name ≡ before_first (λ b. nat_eq b 44) names → more ≡ after_first (λ b. nat_eq b 44) names
    → findings_of_all (words_between names) before
    ≡ option_and_then (λ f. findings_of_all (words_between more) f) (with_finding name before)
all_split names name more before there a b = rw (words_split names there, a, b) refl

-- and if none stands there
pub all_one : (names : List ℕ) (before : Findings) → position_or_len (λ b. nat_eq b 44) names ≡ length names
    → findings_of_all (words_between names) before ≡ with_finding names before
all_one names before none = rw (one_word names none) (only (with_finding names before))
  where
    only : (o : Option Findings) → option_and_then (λ f. findings_of_all [] f) o ≡ o
    only None = refl
    only (Some f) = refl
