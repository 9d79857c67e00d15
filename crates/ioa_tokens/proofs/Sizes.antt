-- The piece at the head of a text has at least one byte, and no more than the text.
use Rattle.std.proofs.Common.{◌≡◌, ℕ, ◌<◌, ◌≤◌, ◌+◌, Bool, true, nat_eq, List, [], ◌∷◌, length, take, drop, get_or, Option, Some, None, refl, sym, ap, arith, subst, min, ⊎_elim, ltb-true}
use Rattle.std.specs.List.{prefix_len, starts_with, take_while, list_all}
use Rattle.std.specs.Map.{lookup_entry}
use Rattle.std.specs.Prelude.{nat_lt, slice_index, ◌==◌}
use Rattle.std.specs.Str.{byte}
use Rattle.std.specs.Char.{is_ascii_alphabetic, is_ascii_digit}
use Rattle.std.proofs.lemmas.Bool.{cond_both, and_parts, cases_Bool}
use Rattle.std.specs.Cmp.Lexicographic.{same_text}
use Rattle.std.proofs.lemmas.Bool.Decides.{nat_tests}
use Rattle.std.proofs.lemmas.List.{length-take}
use Rattle.std.proofs.lemmas.List.Sums.{prefix_len-le-length}
use Rattle.std.proofs.lemmas.List.Folds.{length-prefix_len}
use Rattle.ioa_tokens.specs.declared.mark.Mark.{Mark}
use Rattle.ioa_tokens.specs.declared.lexeme.Lexeme.{Lexeme}
use Rattle.ioa_tokens.specs.declared.lexeme.Lexeme.TheVariants as lexeme
use Rattle.ioa_tokens.specs.Tables.{signs, sign_at_head}
use Rattle.ioa_tokens.specs.Lexeme.{is_space, is_in_line, is_in_word, word_lexeme, number_lexeme, sign_lexeme, backslash_word, token_or_stray, fixed_token, lexeme_at}

-- the size of a piece fits the text
abbrev IsSized : List ℕ → Lexeme × ℕ → Type 0
IsSized text p = (0 < p.1) × (p.1 ≤ length text)

-- a front of which the first character passes
prefix_size : (p : ℕ → Bool) (text : List ℕ) → 0 < length text → p (get_or text 0 0) ≡ true → (0 < prefix_len p text) × (prefix_len p text ≤ length text)
prefix_size p [] nonempty passes = absurd (omega arith)
prefix_size p (c ∷ text) nonempty passes = (rw passes (omega arith), prefix_len-le-length p (c ∷ text))

-- the same of its length
take_while_size : (p : ℕ → Bool) (text : List ℕ) → 0 < length text → p (get_or text 0 0) ≡ true → (0 < length (take_while p text)) × (length (take_while p text) ≤ length text)
take_while_size p text nonempty passes = rw (length-prefix_len p text) (prefix_size p text nonempty passes)

-- what a text begins with is no longer than the text
starts_with_size : (text needle : List ℕ) → starts_with nat_eq text needle ≡ true → length needle ≤ length text
starts_with_size text needle begins = omega (arith, ap length (same_text needle (take (length needle) text) (sym begins)), length-take (length needle) text)

-- what a look-up finds passes both the test and what all rows pass
found_entry : {A : Type 0} (test every : List ℕ → Bool) (rows : List (List ℕ × A)) (row : List ℕ × A) → list_all (λ r. every r.0) rows ≡ true → lookup_entry test rows ≡ Some row → (test row.0 ≡ true) × (every row.0 ≡ true)
found_entry test every [] row all found = cc
found_entry {A} test every (first ∷ rows) row all found =
    let parts = and_parts (every first.0) (list_all (λ r. every r.0) rows) all in
    let P : List ℕ × A → Type 0 = λ r. (test r.0 ≡ true) × (every r.0 ≡ true) in
    ⊎_elim
    (λ yes. let is : Some first ≡ Some row = rw yes at found in let same : first ≡ row = cc in subst P same (yes, parts.0))
    (λ no. found_entry test every rows row parts.1 (rw no at found))
    (cases_Bool (test first.0))

-- no sign is empty
signs_nonempty : list_all (λ r. nat_lt 0 (length r.0)) signs ≡ true
unfolding signs
signs_nonempty = refl

-- a sign, a word after a backslash, or one character
sign_sized : (text : List ℕ) (found : Option (List ℕ × Mark)) → 0 < length text → sign_at_head text ≡ found → IsSized text (sign_lexeme found text)
sign_sized text (Some row) nonempty is =
    let passes = found_entry (starts_with nat_eq text) (λ s. nat_lt 0 (length s)) signs row signs_nonempty is in
    (ltb-true 0 (length row.0) passes.1, starts_with_size text row.0 passes.0)
sign_sized text None nonempty is =
    let word = backslash_word text in
    let size : length word ≡ min (1 + prefix_len is_ascii_alphabetic (drop 1 text)) (length text) = length-take (1 + prefix_len is_ascii_alphabetic (drop 1 text)) text in
    cond_both (slice_index text 0 == byte "\\") (token_or_stray (fixed_token word), length word) (lexeme.Stray, 1) (IsSized text)
    (λ _. (omega arith, omega arith))
    (λ _. (omega arith, omega arith))

-- what begins a comment is in its line
in_line : (c : ℕ) → (c == byte "%") ≡ true → is_in_line c ≡ true
in_line c percent = grind (arith, nat_tests)

-- what begins a word is in the word
pub in_word : (c : ℕ) → is_ascii_alphabetic c ≡ true → is_in_word c ≡ true
in_word c letter = grind (arith, nat_tests)

-- each piece
pub lexeme_sized : (text : List ℕ) → 0 < length text → (0 < (lexeme_at text).1) × ((lexeme_at text).1 ≤ length text)
unfolding lexeme_at
lexeme_sized text nonempty =
    let first = slice_index text 0 in
    cond_both (is_space first) (lexeme.Gap, 1) _ (IsSized text) (λ _. (omega arith, omega arith))
    (λ _. cond_both (first == byte "%") (lexeme.Gap, prefix_len is_in_line text) _ (IsSized text) (λ percent. prefix_size is_in_line text nonempty (in_line first percent))
    (λ _. cond_both (is_ascii_alphabetic first) (word_lexeme (take_while is_in_word text)) _ (IsSized text) (λ letter. take_while_size is_in_word text nonempty (in_word first letter))
    (λ _. cond_both (is_ascii_digit first) (number_lexeme (take_while is_ascii_digit text)) (sign_lexeme (sign_at_head text) text) (IsSized text) (λ digit. take_while_size is_ascii_digit text nonempty digit)
    (λ _. sign_sized text (sign_at_head text) nonempty refl))))
