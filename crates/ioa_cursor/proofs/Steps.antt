-- What one step of the reader tells about the tokens, and back.
use Rattle.std.proofs.Common.{◌≡◌, ℕ, ℤ, Bool, true, false, List, [], ◌∷◌, Option, Some, None, if◌then◌else◌, refl, ap, ◌∙◌, rules}
use Rattle.std.proofs.lemmas.Option.{option_and_then_some, some_pair_parts}
use denote.Enum.Bare.{same_true, true_same}
use Rattle.ioa_tokens.specs.contracts.mark.Mark.{the_type}
use Rattle.ioa_tokens.specs.declared.token.Token.{Token}
use Rattle.ioa_tokens.specs.declared.token.Token.TheVariants as token
use Rattle.ioa_tokens.specs.declared.mark.Mark.{Mark}
use Rattle.ioa_cursor.specs.Reading.{bind, choose, skip, expect, word, number, peek_mark, advance}
use Rattle.ioa_tokens.specs.Tables.{same_mark}

-- whether a list goes on, and what is left
abbrev pub stays : Bool → List Token → Bool × List Token
stays b ys = (b, ys)

-- what a reading returns
abbrev pub read_next : {A : Type 0} → A → List Token → Option (A × List Token)
read_next x ys = Some (x, ys)

way : {A P : Type 0} (b : Bool) (x y z : A) → (if b then x else y) ≡ z → (b ≡ true → x ≡ z → P) → (b ≡ false → y ≡ z → P) → P
way true x y z e f g = f refl e
way false x y z e f g = g refl e

-- which way a choice went
pub choose_cases : {A : Type 0} (P : Type 0) {b : Bool} {x y z : A} → choose b x y ≡ z → (b ≡ true → x ≡ z → P) → (b ≡ false → y ≡ z → P) → P
unfolding choose
choose_cases P {b} {x} {y} {z} e f g = way b x y z e f g

-- what a reading after another reads
pub bind_cases : {A B : Type 0} (P : Type 0) {o : Option A} {f : A → Option B} {z : B} → bind o f ≡ Some z → ((x : A) → o ≡ Some x → f x ≡ Some z → P) → P
unfolding bind
bind_cases P {o} {f} {z} e k = option_and_then_some {P = P} f o z e k

pub same_mark_true : (k m : Mark) → same_mark k m ≡ true → k ≡ m
same_mark_true k m e = same_true the_type (search rules) k m e

pub same_mark_self : (m : Mark) → same_mark m m ≡ true
same_mark_self m = true_same the_type m m refl

taken : (b : Bool) (k m : Mark) (xs : List Token) → (b ≡ true → k ≡ m) → (if b then stays true xs else stays false (token.Mark k ∷ xs)).0 ≡ true →
    token.Mark k ∷ xs ≡ token.Mark m ∷ (if b then stays true xs else stays false (token.Mark k ∷ xs)).1
taken true k m xs same e = ap (λ n. token.Mark n ∷ xs) (same refl)
taken false k m xs same e = absurd cc

left : (b : Bool) (k : Mark) (xs : List Token) → (if b then stays true xs else stays false (token.Mark k ∷ xs)).0 ≡ false →
    (if b then stays true xs else stays false (token.Mark k ∷ xs)).1 ≡ token.Mark k ∷ xs
left true k xs e = absurd cc
left false k xs e = refl

-- a mark that is skipped came first
pub skip_taken : (m : Mark) (xs : List Token) → (skip m xs).0 ≡ true → xs ≡ token.Mark m ∷ (skip m xs).1
unfolding skip
skip_taken m (token.Mark k ∷ xs) e = taken (same_mark k m) k m xs (same_mark_true k m) e
skip_taken m (token.Word w ∷ xs) e = absurd cc
skip_taken m (token.Number n ∷ xs) e = absurd cc
skip_taken m (token.LeftOut w ∷ xs) e = absurd cc
skip_taken m [] e = absurd cc

-- if no mark is skipped, nothing is
pub skip_left : (m : Mark) (xs : List Token) → (skip m xs).0 ≡ false → (skip m xs).1 ≡ xs
unfolding skip
skip_left m (token.Mark k ∷ xs) e = left (same_mark k m) k xs e
skip_left m (token.Word w ∷ xs) e = refl
skip_left m (token.Number n ∷ xs) e = refl
skip_left m (token.LeftOut w ∷ xs) e = refl
skip_left m [] e = refl

expected_if : (b : Bool) (m : Mark) (xs ys : List Token) (r : Unit {0} × List Token) → (b ≡ true → xs ≡ token.Mark m ∷ ys) →
    (if b then read_next tt ys else None) ≡ Some r → xs ≡ token.Mark m ∷ r.1
expected_if true m xs ys r f e = f refl ∙ ap (λ zs. token.Mark m ∷ zs) (some_pair_parts _ _ _ _ e).1
expected_if false m xs ys r f e = absurd cc

-- a mark that is read came first
pub expected_taken : (m : Mark) (xs : List Token) (r : Unit {0} × List Token) → expect m xs ≡ Some r → xs ≡ token.Mark m ∷ r.1
unfolding expect
expected_taken m xs r e = expected_if (skip m xs).0 m xs (skip m xs).1 r (skip_taken m xs) e

-- a word that is read came first
pub word_taken : (xs : List Token) (r : List ℕ × List Token) → word xs ≡ Some r → xs ≡ token.Word r.0 ∷ r.1
unfolding word
word_taken (token.Word w ∷ xs) r e = let p = some_pair_parts _ _ _ _ e in ap (λ v. token.Word v ∷ xs) p.0 ∙ ap (λ zs. token.Word r.0 ∷ zs) p.1
word_taken (token.Mark k ∷ xs) r e = absurd cc
word_taken (token.Number n ∷ xs) r e = absurd cc
word_taken (token.LeftOut w ∷ xs) r e = absurd cc
word_taken [] r e = absurd cc

-- a number that is read came first
pub number_taken : (xs : List Token) (r : ℤ × List Token) → number xs ≡ Some r → xs ≡ token.Number r.0 ∷ r.1
unfolding number
number_taken (token.Number n ∷ xs) r e = let p = some_pair_parts _ _ _ _ e in ap (λ v. token.Number v ∷ xs) p.0 ∙ ap (λ zs. token.Number r.0 ∷ zs) p.1
number_taken (token.Mark k ∷ xs) r e = absurd cc
number_taken (token.Word w ∷ xs) r e = absurd cc
number_taken (token.LeftOut w ∷ xs) r e = absurd cc
number_taken [] r e = absurd cc

-- the mark that comes first
pub peek_mark_taken : (xs : List Token) (m : Mark) → peek_mark xs ≡ Some m → xs ≡ token.Mark m ∷ advance xs
unfolding peek_mark advance
peek_mark_taken (token.Mark k ∷ xs) m e = ap (λ n. token.Mark n ∷ xs) cc
peek_mark_taken (token.Word w ∷ xs) m e = absurd cc
peek_mark_taken (token.Number n ∷ xs) m e = absurd cc
peek_mark_taken (token.LeftOut w ∷ xs) m e = absurd cc
peek_mark_taken [] m e = absurd cc
