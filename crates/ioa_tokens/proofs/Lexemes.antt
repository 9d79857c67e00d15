-- The piece at the head of a text that begins with a token, if what comes next lets the token end.
use Rattle.std.proofs.Common.{◌≡◌, ℕ, ◌<◌, ◌≤◌, true, false, nat_le, List, [], ◌∷◌, ◌++◌, codes, length, Some, refl, sym, ap, arith, ◌∙◌, true≢false, pos, negsuc, decimal, le-leb, one-add}
use Rattle.std.specs.List.{list_all}
use Rattle.std.specs.Prelude.{◌==◌, slice_index}
use Rattle.std.specs.Char.{is_ascii_alphabetic, is_ascii_digit}
use Rattle.std.specs.Str.{byte}
use Rattle.std.specs.Str.Parse.{AllDigits}
use Rattle.std.proofs.lemmas.Fmt.{decimal_is_IsNumeral}
use Rattle.std.proofs.lemmas.Bool.{and_parts}
use Rattle.std.proofs.lemmas.Bool.Decides.{nat_tests}
use Rattle.ioa_tokens.specs.declared.mark.Mark.{Mark}
use Rattle.ioa_tokens.specs.declared.mark.LeftOut.{LeftOut}
use Rattle.ioa_tokens.specs.declared.mark.Mark.TheVariants as mark
use Rattle.ioa_tokens.specs.declared.mark.LeftOut.TheVariants as left_out
use Rattle.ioa_tokens.specs.declared.token.Token.{Token}
use Rattle.ioa_tokens.specs.declared.token.Token.TheVariants as token
use Rattle.ioa_tokens.specs.declared.lexeme.Lexeme.TheVariants as lexeme
use Rattle.ioa_tokens.specs.Tables.{mark_text, left_out_text, signs, sign_at_head, reserved, left_out_words}
use Rattle.ioa_tokens.specs.Lexeme.{is_in_word, is_space, word_lexeme, number_lexeme, sign_lexeme, lexeme_at, fixed_token, backslash_word, token_or_stray, greatest_number}
use Rattle.ioa_tokens.specs.Written.{token_text, begins_longer, IsToken}
use Rattle.ioa_tokens.proofs.Ends.{Stops, prefix_whole, sign_stays, spelling_takes, takes}

-- a letter is no white space and begins no comment
letter_is_no_gap : (c : ℕ) → is_ascii_alphabetic c ≡ true → (is_space c ≡ false) × ((c == byte "%") ≡ false)
letter_is_no_gap c letter = (grind (arith, nat_tests), grind (arith, nat_tests))

-- a digit is neither, and no letter
digit_is_no_gap : (c : ℕ) → is_ascii_digit c ≡ true → (is_space c ≡ false) × ((c == byte "%") ≡ false) × (is_ascii_alphabetic c ≡ false)
digit_is_no_gap c digit = (grind (arith, nat_tests), grind (arith, nat_tests), grind (arith, nat_tests))

-- a word at the head
pub word_at : (word rest : List ℕ) → is_ascii_alphabetic (slice_index word 0) ≡ true → list_all is_in_word word ≡ true → Stops is_in_word rest → lexeme_at (word ++ rest) ≡ word_lexeme word
unfolding lexeme_at
word_at [] rest letter all stops = absurd (true≢false (sym letter))
word_at (c ∷ word) rest letter all stops =
    let other = letter_is_no_gap c letter in
    rw (other.0, other.1, letter) (ap word_lexeme (prefix_whole is_in_word (c ∷ word) rest all stops))

-- a number at the head
pub number_at : (digits rest : List ℕ) → 0 < length digits → list_all is_ascii_digit digits ≡ true → Stops is_ascii_digit rest → lexeme_at (digits ++ rest) ≡ number_lexeme digits
unfolding lexeme_at
number_at [] rest some all stops = absurd (omega arith)
number_at (d ∷ digits) rest some all stops =
    let digit : is_ascii_digit d ≡ true = (and_parts (is_ascii_digit d) (list_all is_ascii_digit digits) all).0 in
    let other = digit_is_no_gap d digit in
    rw (prefix_whole is_ascii_digit (d ∷ digits) rest all stops, other.0, other.1, other.2, digit) refl

-- digits by their values are digits by their codes
pub digits_by_code : (ds : List ℕ) → AllDigits 10 ds → list_all is_ascii_digit ds ≡ true
digits_by_code [] all = refl
digits_by_code (d ∷ ds) all = let digit : is_ascii_digit d ≡ true = grind (arith, nat_tests) in rw (digit, digits_by_code ds all.1) refl

-- a number's digits at the head
pub decimal_at : (n : ℕ) (rest : List ℕ) → n ≤ greatest_number → Stops is_ascii_digit rest → lexeme_at (decimal n ++ rest) ≡ (lexeme.Token (token.Number (pos n)), length (decimal n))
decimal_at n rest fits stops =
    let numeral = decimal_is_IsNumeral n (omega arith) in
    let least : nat_le n greatest_number ≡ true = le-leb n greatest_number fits in
    number_at (decimal n) rest numeral.0.0 (digits_by_code (decimal n) numeral.0.1) stops ∙ rw (numeral.1, least) refl

-- a sign at the head
at_sign : (m : Mark) (rest : List ℕ) → lexeme_at (mark_text m ++ rest) ≡ sign_lexeme (sign_at_head (mark_text m ++ rest)) (mark_text m ++ rest) → sign_at_head (mark_text m) ≡ Some (mark_text m, m) → Stops (begins_longer (mark_text m)) rest → lexeme_at (mark_text m ++ rest) ≡ (lexeme.Token (token.Mark m), length (mark_text m))
at_sign m rest is found ends = is ∙ ap (λ row. sign_lexeme row (mark_text m ++ rest)) (sign_stays (mark_text m) rest ends ∙ found)

-- a backslash and letters at the head, which are no sign
at_letters : (letters rest : List ℕ) → list_all is_ascii_alphabetic letters ≡ true → Stops is_ascii_alphabetic rest → backslash_word (byte "\\" ∷ (letters ++ rest)) ≡ byte "\\" ∷ letters
at_letters letters rest all stops = rw one-add (ap (λ (l : List ℕ). byte "\\" ∷ l) (prefix_whole is_ascii_alphabetic letters rest all stops))

-- a reserved or left-out word at the head
at_word : (text : List ℕ) (t : Token) (rest : List ℕ) → is_ascii_alphabetic (slice_index text 0) ≡ true → list_all is_in_word text ≡ true → word_lexeme text ≡ (lexeme.Token t, length text) → Stops is_in_word rest → lexeme_at (text ++ rest) ≡ (lexeme.Token t, length text)
at_word text t rest letter all is ends = word_at text rest letter all ends ∙ is

-- a sign or a reserved word at the head
pub mark_at : (m : Mark) (rest : List ℕ) → Stops (spelling_takes (mark_text m)) rest → lexeme_at (mark_text m ++ rest) ≡ (lexeme.Token (token.Mark m), length (mark_text m))
unfolding lexeme_at mark_text signs reserved left_out_words
mark_at mark.Equivalent rest ends = at_sign mark.Equivalent rest refl refl ends
mark_at mark.And rest ends = at_sign mark.And rest refl refl ends
mark_at mark.Or rest ends = at_sign mark.Or rest refl refl ends
mark_at mark.NotEqual rest ends = at_sign mark.NotEqual rest refl refl ends
mark_at mark.Implies rest ends = at_sign mark.Implies rest refl refl ends
mark_at mark.AtMost rest ends = at_sign mark.AtMost rest refl refl ends
mark_at mark.AtLeast rest ends = at_sign mark.AtLeast rest refl refl ends
mark_at mark.Arrow rest ends = at_sign mark.Arrow rest refl refl ends
mark_at mark.Prepend rest ends = at_sign mark.Prepend rest refl refl ends
mark_at mark.Append rest ends = at_sign mark.Append rest refl refl ends
mark_at mark.Concatenate rest ends = at_sign mark.Concatenate rest refl refl ends
mark_at mark.Assign rest ends = at_sign mark.Assign rest refl refl ends
mark_at mark.Not rest ends = at_sign mark.Not rest refl refl ends
mark_at mark.Equal rest ends = at_sign mark.Equal rest refl refl ends
mark_at mark.Less rest ends = at_sign mark.Less rest refl refl ends
mark_at mark.Greater rest ends = at_sign mark.Greater rest refl refl ends
mark_at mark.Plus rest ends = at_sign mark.Plus rest refl refl ends
mark_at mark.Minus rest ends = at_sign mark.Minus rest refl refl ends
mark_at mark.Times rest ends = at_sign mark.Times rest refl refl ends
mark_at mark.Dot rest ends = at_sign mark.Dot rest refl refl ends
mark_at mark.Comma rest ends = at_sign mark.Comma rest refl refl ends
mark_at mark.Semicolon rest ends = at_sign mark.Semicolon rest refl refl ends
mark_at mark.Colon rest ends = at_sign mark.Colon rest refl refl ends
mark_at mark.OpenRound rest ends = at_sign mark.OpenRound rest refl refl ends
mark_at mark.CloseRound rest ends = at_sign mark.CloseRound rest refl refl ends
mark_at mark.OpenSquare rest ends = at_sign mark.OpenSquare rest refl refl ends
mark_at mark.CloseSquare rest ends = at_sign mark.CloseSquare rest refl refl ends
mark_at mark.OpenBrace rest ends = at_sign mark.OpenBrace rest refl refl ends
mark_at mark.CloseBrace rest ends = at_sign mark.CloseBrace rest refl refl ends
mark_at mark.AtSign rest ends = at_sign mark.AtSign rest refl refl ends
mark_at mark.Member rest ends = ap (λ word. (token_or_stray (fixed_token word), length word)) (at_letters (codes "in") rest refl ends)
mark_at m rest ends = at_word (mark_text m) (token.Mark m) rest refl refl refl ends

-- a left-out word at the head
pub left_out_at : (w : LeftOut) (rest : List ℕ) → Stops (spelling_takes (left_out_text w)) rest → lexeme_at (left_out_text w ++ rest) ≡ (lexeme.Token (token.LeftOut w), length (left_out_text w))
unfolding lexeme_at left_out_text signs reserved left_out_words
left_out_at left_out.ForAll rest ends = ap (λ word. (token_or_stray (fixed_token word), length word)) (at_letters (codes "A") rest refl ends)
left_out_at left_out.Exists rest ends = ap (λ word. (token_or_stray (fixed_token word), length word)) (at_letters (codes "E") rest refl ends)
left_out_at w rest ends = at_word (left_out_text w) (token.LeftOut w) rest refl refl refl ends

-- a token at the head
pub token_at : (t : Token) (rest : List ℕ) → IsToken t → Stops (takes t) rest → lexeme_at (token_text t ++ rest) ≡ (lexeme.Token t, length (token_text t))
token_at (token.Word word) rest good ends = word_at word rest good.0 good.1 ends ∙ rw good.2 refl
token_at (token.Number (pos n)) rest good ends = decimal_at n rest good ends
token_at (token.Number (negsuc n)) rest good ends = absurd good
token_at (token.Mark m) rest good ends = mark_at m rest ends
token_at (token.LeftOut w) rest good ends = left_out_at w rest ends
