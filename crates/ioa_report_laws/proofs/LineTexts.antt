-- Two texts that begin with the same lines.
use Rattle.std.proofs.Common.{◌≡◌, ℕ, ◌==◌, Bool, true, false, not, true≢false, List, [], ◌∷◌, ◌++◌, codes, refl, sym, ◌∙◌, append_assoc, arith}
use Rattle.std.specs.List.{AllByRecursion, list_all}
use Rattle.std.proofs.lemmas.Bool.{and_parts}
use Rattle.std.proofs.lemmas.Bool.Decides.{nat_tests}
use Rattle.std.proofs.lemmas.List.{append_cancel_left}
use Rattle.ioa_printed_lines.proofs.LineFeeds.{IsOneLine}

-- the first of two lists that begin alike, and what is behind it
pub heads : {x y : ℕ} {xs ys : List ℕ} → x ∷ xs ≡ y ∷ ys → x ≡ y
heads h = cc

pub tails : {x y : ℕ} {xs ys : List ℕ} → x ∷ xs ≡ y ∷ ys → xs ≡ ys
tails h = cc

-- no line has a line feed
no_feed : (c : ℕ) → (c == 10) ≡ false → c ≡ 10 → ⊥
no_feed c other same =
    let feed : (c == 10) ≡ true = rw same refl in
    true≢false (sym feed ∙ other)

other_than_feed : (c : ℕ) → not (c == 10) ≡ true → (c == 10) ≡ false
other_than_feed c passes = grind (arith, nat_tests)

-- a text that is known has none, if it passes the test
pub tested_line : (text : List ℕ) → list_all (λ c. not (c == 10)) text ≡ true → IsOneLine text
tested_line [] all = tt
tested_line (c ∷ text) all =
    let both = and_parts (not (c == 10)) (list_all (λ d. not (d == 10)) text) all in
    (other_than_feed c both.0, tested_line text both.1)

-- two lines, each with what stands behind its line feed
pub same_line : (xs ys us vs : List ℕ) → IsOneLine xs → IsOneLine ys → xs ++ 10 ∷ us ≡ ys ++ 10 ∷ vs → (xs ≡ ys) × (us ≡ vs)
same_line [] [] us vs h g e = (refl, tails e)
same_line [] (y ∷ ys) us vs h g e = absurd (no_feed y g.0 (sym (heads e)))
same_line (x ∷ xs) [] us vs h g e = absurd (no_feed x h.0 (heads e))
same_line (x ∷ xs) (y ∷ ys) us vs h g e =
    let first : x ≡ y = heads e in
    let more = same_line xs ys us vs h.1 g.1 (tails e) in
    (rw (first, more.0) refl, more.1)

-- two lines that begin with the same text
regrouped : (front line behind : List ℕ) → (front ++ (line ++ codes "\n")) ++ behind ≡ front ++ (line ++ 10 ∷ behind)
regrouped front line behind = simp append_assoc

pub same_rest : (front xs ys us vs : List ℕ) → IsOneLine xs → IsOneLine ys → (front ++ (xs ++ codes "\n")) ++ us ≡ (front ++ (ys ++ codes "\n")) ++ vs → (xs ≡ ys) × (us ≡ vs)
same_rest front xs ys us vs h g e =
    same_line xs ys us vs h g (append_cancel_left front (xs ++ 10 ∷ us) (ys ++ 10 ∷ vs) (sym (regrouped front xs us) ∙ e ∙ regrouped front ys vs))

-- a text does not begin with a character
abbrev pub BeginsNotWith : ℕ → List ℕ → Type 0
BeginsNotWith c text = (rest : List ℕ) → text ≡ c ∷ rest → ⊥
