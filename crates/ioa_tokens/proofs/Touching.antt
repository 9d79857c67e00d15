-- What comes after a token lets it end.
use Rattle.std.proofs.Common.{◌≡◌, ℕ, ◌<◌, Bool, true, false, not, nat_eq, List, [], ◌∷◌, ◌++◌, length, refl, sym, ap, arith, subst, ◌∙◌, true≢false, pos, negsuc, decimal, append_assoc, ⊎_elim, eqb-true}
use Rattle.std.specs.List.{list_all, list_any, starts_with}
use Rattle.std.specs.Prelude.{map, ◌||◌, slice_index, if◌then◌else◌}
use Rattle.std.specs.Char.{is_ascii_alphabetic, is_ascii_digit}
use Rattle.std.proofs.lemmas.Bool.{and_parts, cond_both, cases_Bool}
use Rattle.std.proofs.lemmas.Bool.Decides.{nat_tests}
use Rattle.std.proofs.lemmas.Fmt.{decimal_is_IsNumeral}
use Rattle.std.proofs.Math.Bool.{and-false}
use Rattle.ioa_tokens.specs.declared.mark.Mark.{Mark}
use Rattle.ioa_tokens.specs.declared.mark.LeftOut.{LeftOut}
use Rattle.ioa_tokens.specs.declared.mark.Mark.TheVariants as mark
use Rattle.ioa_tokens.specs.declared.mark.LeftOut.TheVariants as left_out
use Rattle.ioa_tokens.specs.declared.token.Token.{Token}
use Rattle.ioa_tokens.specs.declared.token.Token.TheVariants as token
use Rattle.ioa_tokens.specs.declared.written.Gap.{Gap}
use Rattle.ioa_tokens.specs.declared.written.Gap.TheVariants as gap
use Rattle.ioa_tokens.specs.Tables.{mark_text, left_out_text, signs, reserved, left_out_words}
use Rattle.ioa_tokens.specs.Lexeme.{is_in_word, is_space}
use Rattle.ioa_tokens.specs.Written.{Head, letter, digit, sign, text_head, token_head, word_ends, number_ends, letters_end, sign_ends, spelling_ends, token_ends, begins_longer, token_text, written_text, IsToken, AreTokens, IsApartFrom}
use Rattle.ioa_tokens.proofs.Ends.{Stops, spelling_takes, takes}
use Rattle.ioa_tokens.proofs.Lexemes.{digits_by_code}

-- a text begins so
abbrev pub IsHead : Head → ℕ → Type 0
IsHead letter c = is_ascii_alphabetic c ≡ true
IsHead digit c = is_ascii_digit c ≡ true
IsHead (sign first) c = (c ≡ first) × (is_in_word c ≡ false)

abbrev pub HasHead : Head → List ℕ → Type 0
HasHead head [] = ⊥
HasHead head (c ∷ more) = IsHead head c

-- a character that passes is another than one that does not
other_character : (p : ℕ → Bool) (c d : ℕ) → p c ≡ true → p d ≡ false → nat_eq c d ≡ false
other_character p c d passes fails =
    ⊎_elim
    (λ yes. let same : c ≡ d = eqb-true c d yes in absurd (true≢false (sym passes ∙ ap p same ∙ fails)))
    (λ no. no)
    (cases_Bool (nat_eq c d))

-- not a passing one
fails_of_not : (b : Bool) → not b ≡ true → b ≡ false
fails_of_not true passes = absurd (true≢false (sym passes))
fails_of_not false passes = refl

-- a text that has no such character begins with no text that ends with one
pub no_prefix : (p : ℕ → Bool) (row text : List ℕ) (c : ℕ) → list_all (λ x. not (p x)) row ≡ true → p c ≡ true → starts_with nat_eq row (text ++ c ∷ []) ≡ false
no_prefix p [] [] c all passes = refl
no_prefix p [] (x ∷ text) c all passes = refl
no_prefix p (d ∷ row) [] c all passes =
    let other : nat_eq c d ≡ false = other_character p c d passes (fails_of_not (p d) (and_parts (not (p d)) (list_all (λ x. not (p x)) row) all).0) in
    rw other refl
no_prefix p (d ∷ row) (x ∷ text) c all passes =
    let parts = and_parts (not (p d)) (list_all (λ x. not (p x)) row) all in
    rw (no_prefix p row text c parts.1 passes) (and-false (nat_eq x d))

-- the same of each row of a table
no_row : {A : Type 0} (p : ℕ → Bool) (rows : List (List ℕ × A)) (text : List ℕ) (c : ℕ) → list_all (λ row. list_all (λ x. not (p x)) row.0) rows ≡ true → p c ≡ true → list_any (λ row. starts_with nat_eq row.0 (text ++ c ∷ [])) rows ≡ false
no_row p [] text c all passes = refl
no_row p (row ∷ rows) text c all passes =
    let parts = and_parts (list_all (λ x. not (p x)) row.0) (list_all (λ r. list_all (λ x. not (p x)) r.0) rows) all in
    rw (no_prefix p row.0 text c parts.0 passes) (no_row p rows text c parts.1 passes)

-- no sign goes on with a letter, a digit or `_`
no_sign_in_word : (text : List ℕ) (c : ℕ) → is_in_word c ≡ true → begins_longer text c ≡ false
unfolding signs
no_sign_in_word text c passes = no_row is_in_word signs text c refl passes

-- nor with white space
no_sign_in_space : (text : List ℕ) (c : ℕ) → is_space c ≡ true → begins_longer text c ≡ false
unfolding signs
no_sign_in_space text c passes = no_row is_space signs text c refl passes

-- a word ends before a head that ends it
word_stops : (head : Head) (c : ℕ) → word_ends head ≡ true → IsHead head c → is_in_word c ≡ false
word_stops letter c ends is = absurd (true≢false (sym ends))
word_stops digit c ends is = absurd (true≢false (sym ends))
word_stops (sign first) c ends is = is.1

-- so does a number
number_stops : (head : Head) (c : ℕ) → number_ends head ≡ true → IsHead head c → is_ascii_digit c ≡ false
number_stops letter c ends is = grind (arith, nat_tests)
number_stops digit c ends is = absurd (true≢false (sym ends))
number_stops (sign first) c ends is = let other = is.1 in grind (arith, nat_tests)

-- so do letters
letters_stop : (head : Head) (c : ℕ) → letters_end head ≡ true → IsHead head c → is_ascii_alphabetic c ≡ false
letters_stop letter c ends is = absurd (true≢false (sym ends))
letters_stop digit c ends is = grind (arith, nat_tests)
letters_stop (sign first) c ends is = let other = is.1 in grind (arith, nat_tests)

-- so does a sign
sign_stops : (text : List ℕ) (head : Head) (c : ℕ) → sign_ends text head ≡ true → IsHead head c → begins_longer text c ≡ false
sign_stops text letter c ends is = no_sign_in_word text c (grind (arith, nat_tests))
sign_stops text digit c ends is = no_sign_in_word text c (grind (arith, nat_tests))
sign_stops text (sign first) c ends is = ap (begins_longer text) is.0 ∙ fails_of_not (begins_longer text first) ends

-- a choice of three that passes makes a choice of three fail
each_of_three : (x y a b d e f g : Bool) → (a ≡ true → e ≡ false) → (b ≡ true → f ≡ false) → (d ≡ true → g ≡ false) → (if x then a else (if y then b else d)) ≡ true → (if x then e else (if y then f else g)) ≡ false
each_of_three true y a b d e f g one two three passes = one passes
each_of_three false true a b d e f g one two three passes = two passes
each_of_three false false a b d e f g one two three passes = three passes

-- so does a spelling
spelling_stops : (text : List ℕ) (head : Head) (c : ℕ) → spelling_ends text head ≡ true → IsHead head c → spelling_takes text c ≡ false
spelling_stops text head c ends is =
    each_of_three (is_ascii_alphabetic (slice_index text 0)) (is_ascii_alphabetic (slice_index text 1)) _ _ _ _ _ _
    (λ so. word_stops head c so is) (λ so. letters_stop head c so is) (λ so. sign_stops text head c so is) ends

-- so does each token
token_stops : (t : Token) (head : Head) (c : ℕ) → token_ends t head ≡ true → IsHead head c → takes t c ≡ false
token_stops (token.Word word) head c ends is = word_stops head c ends is
token_stops (token.Number number) head c ends is = number_stops head c ends is
token_stops (token.Mark m) head c ends is = spelling_stops (mark_text m) head c ends is
token_stops (token.LeftOut w) head c ends is = spelling_stops (left_out_text w) head c ends is

-- white space ends a spelling
spelling_ends_at_space : (text : List ℕ) (c : ℕ) → is_space c ≡ true → spelling_takes text c ≡ false
spelling_ends_at_space text c space =
    cond_both (is_ascii_alphabetic (slice_index text 0)) (is_in_word c) (if is_ascii_alphabetic (slice_index text 1) then is_ascii_alphabetic c else begins_longer text c) (λ b. b ≡ false)
    (λ _. grind (arith, nat_tests))
    (λ _. cond_both (is_ascii_alphabetic (slice_index text 1)) (is_ascii_alphabetic c) (begins_longer text c) (λ b. b ≡ false)
    (λ _. grind (arith, nat_tests)) (λ _. no_sign_in_space text c space))

-- white space ends a token
ends_at_space : (t : Token) (c : ℕ) → is_space c ≡ true → takes t c ≡ false
ends_at_space (token.Word word) c space = grind (arith, nat_tests)
ends_at_space (token.Number number) c space = grind (arith, nat_tests)
ends_at_space (token.Mark m) c space = spelling_ends_at_space (mark_text m) c space
ends_at_space (token.LeftOut w) c space = spelling_ends_at_space (left_out_text w) c space

-- whether a spelling begins with a letter or with a sign
abbrev pub is_headed : List ℕ → Bool
is_headed [] = false
is_headed (c ∷ more) = is_ascii_alphabetic c || not (is_in_word c)

-- then it has its head
spelling_headed : (text : List ℕ) → is_headed text ≡ true → HasHead (text_head text) text
spelling_headed [] headed = absurd (true≢false (sym headed))
spelling_headed (c ∷ more) headed =
    cond_both (is_ascii_alphabetic c) letter (sign c) (λ head. IsHead head c)
    (λ yes. yes)
    (λ no. (refl, fails_of_not (is_in_word c) (rw no at headed)))

-- each mark begins so
pub mark_headed : (m : Mark) → is_headed (mark_text m) ≡ true
unfolding mark_text signs reserved
mark_headed mark.Equivalent = refl
mark_headed _ = refl

-- each left-out word does
pub left_out_headed : (w : LeftOut) → is_headed (left_out_text w) ≡ true
unfolding left_out_text left_out_words
left_out_headed left_out.Uses = refl
left_out_headed _ = refl

-- a word begins with a letter
word_headed : (word : List ℕ) → is_ascii_alphabetic (slice_index word 0) ≡ true → HasHead letter word
word_headed [] first = absurd (true≢false (sym first))
word_headed (c ∷ more) first = first

-- digits begin with a digit
digits_headed : (ds : List ℕ) → 0 < length ds → list_all is_ascii_digit ds ≡ true → HasHead digit ds
digits_headed [] some all = absurd (omega arith)
digits_headed (d ∷ ds) some all = (and_parts (is_ascii_digit d) (list_all is_ascii_digit ds) all).0

-- each token begins with its head
pub token_headed : (t : Token) → IsToken t → HasHead (token_head t) (token_text t)
token_headed (token.Word word) good = word_headed word good.0
token_headed (token.Number (pos n)) good =
    let numeral = decimal_is_IsNumeral n (omega arith) in
    digits_headed (decimal n) numeral.0.0 (digits_by_code (decimal n) numeral.0.1)
token_headed (token.Number (negsuc n)) good = absurd good
token_headed (token.Mark m) good = spelling_headed (mark_text m) (mark_headed m)
token_headed (token.LeftOut w) good = spelling_headed (left_out_text w) (left_out_headed w)

-- before a text with a head that ends it, a token ends
stops_at_head : (t : Token) (head : Head) (text rest : List ℕ) → token_ends t head ≡ true → HasHead head text → Stops (takes t) (text ++ rest)
stops_at_head t head [] rest ends has = absurd has
stops_at_head t head (c ∷ text) rest ends has = token_stops t head c ends has

-- and before white space
stops_at_space : (t : Token) (end : List ℕ) → list_all is_space end ≡ true → Stops (takes t) end
stops_at_space t [] all = tt
stops_at_space t (c ∷ end) all = ends_at_space t c (and_parts (is_space c) (list_all is_space end) all).0

-- what is written behind a token, apart from it, ends it
pub stops_behind : (t : Token) (ws : List (Gap × Token)) (end : List ℕ) → AreTokens (map (λ w. w.1) ws) → IsApartFrom t ws → list_all is_space end ≡ true → Stops (takes t) (written_text ws ++ end)
stops_behind t [] end good apart blank = stops_at_space t end blank
stops_behind t ((gap.Joined, u) ∷ ws) end good apart blank =
    subst (Stops (takes t)) (sym (append_assoc (token_text u) (written_text ws) end))
    (stops_at_head t (token_head u) (token_text u) (written_text ws ++ end) apart (token_headed u good.0))
stops_behind t ((gap.Spaced, u) ∷ ws) end good apart blank = ends_at_space t 32 refl
stops_behind t ((gap.NewLine indent, u) ∷ ws) end good apart blank = ends_at_space t 10 refl
