-- The tokens of a text are tokens that can be written.
use Rattle.std.proofs.Common.{◌≡◌, ℕ, zero, suc, ◌+◌, ◌-◌, Bool, true, nat_le, List, [], ◌∷◌, length, Option, Some, None, Result, Ok, Err, refl, ap, subst, ◌∙◌, pos, leb-true, one-add, ⊎_elim}
use Rattle.std.specs.List.{list_all, prefix_len, take_while}
use Rattle.std.specs.Option.{option_map, option_or}
use Rattle.std.specs.Prelude.{map, slice_index, ◌==◌, unwrap_or}
use Rattle.std.specs.Char.{is_ascii_alphabetic, is_ascii_digit}
use Rattle.std.specs.Str.{byte}
use Rattle.std.specs.Str.Parse.{digits_value}
use Rattle.std.proofs.lemmas.Bool.{cond_both, cases_Bool}
use Rattle.ioa_tokens.specs.declared.mark.Mark.{Mark}
use Rattle.ioa_tokens.specs.declared.mark.LeftOut.{LeftOut}
use Rattle.ioa_tokens.specs.declared.token.LocatedToken.{LocatedToken}
use Rattle.ioa_tokens.specs.declared.token.Token.TheVariants as token
use Rattle.ioa_tokens.specs.declared.fault.CutFault.{CutFault}
use Rattle.ioa_tokens.specs.declared.lexeme.Lexeme.{Lexeme}
use Rattle.ioa_tokens.specs.declared.lexeme.Lexeme.TheVariants as lexeme
use Rattle.ioa_tokens.specs.Tables.{sign_at_head, reserved_word, left_out_word}
use Rattle.ioa_tokens.specs.Lexeme.{is_in_word, is_in_line, is_space, fixed_token, word_lexeme, number_lexeme, number_or_too_large, sign_lexeme, backslash_word, token_or_stray, greatest_number, lexeme_at}
use Rattle.ioa_tokens.specs.Tokens.{tokens, tokens_from, with_lexeme}
use Rattle.ioa_tokens.specs.Written.{IsToken, AreTokens}
use Rattle.ioa_tokens.proofs.Sizes.{in_word}

-- a piece is no other token
abbrev IsGood : Lexeme → Type 0
IsGood (lexeme.Token t) = IsToken t
IsGood _ = Unit {0}

-- a mark or a left-out word is a token
fixed_good : (mark : Option Mark) (word : Option LeftOut) → IsGood (token_or_stray (option_or (option_map token.Mark mark) (option_map token.LeftOut word)))
fixed_good (Some m) word = tt
fixed_good None (Some w) = tt
fixed_good None None = tt

-- a front goes on behind a character that passes
prefix_step : (p : ℕ → Bool) (c : ℕ) (text : List ℕ) → p c ≡ true → take_while p (c ∷ text) ≡ c ∷ take_while p text
prefix_step p c text passes = rw (passes, one-add) refl

-- all characters of a front pass
prefix_passes : (p : ℕ → Bool) (text : List ℕ) → list_all p (take_while p text) ≡ true
prefix_passes p [] = refl
prefix_passes p (c ∷ text) =
    ⊎_elim
    (λ yes. ap (list_all p) (prefix_step p c text yes) ∙ rw yes (prefix_passes p text))
    (λ no. rw no refl)
    (cases_Bool (p c))

-- a front begins as its text
prefix_begins : (p : ℕ → Bool) (text : List ℕ) → p (slice_index text 0) ≡ true → slice_index (take_while p text) 0 ≡ slice_index text 0
prefix_begins p [] passes = refl
prefix_begins p (c ∷ text) passes = ap (λ l. slice_index l 0) (prefix_step p c text passes)

-- a name, or a fixed word
name_good : (word : List ℕ) (mark : Option Mark) (left_out : Option LeftOut) → reserved_word word ≡ mark → left_out_word word ≡ left_out → is_ascii_alphabetic (slice_index word 0) ≡ true → list_all is_in_word word ≡ true → IsToken (unwrap_or (option_or (option_map token.Mark mark) (option_map token.LeftOut left_out)) (token.Word word))
name_good word (Some m) left_out reserved other first all = tt
name_good word None (Some w) reserved other first all = tt
name_good word None None reserved other first all = (first, all, rw (reserved, other) refl)

-- the word at the head of a text
word_good : (text : List ℕ) → is_ascii_alphabetic (slice_index text 0) ≡ true → IsGood (word_lexeme (take_while is_in_word text)).0
word_good text letter =
    let word = take_while is_in_word text in
    let begins : slice_index word 0 ≡ slice_index text 0 = prefix_begins is_in_word text (in_word (slice_index text 0) letter) in
    name_good word (reserved_word word) (left_out_word word) refl refl (ap is_ascii_alphabetic begins ∙ letter) (prefix_passes is_in_word text)

-- a number
number_good : (n : ℕ) → IsGood (number_or_too_large n)
number_good n =
    cond_both (nat_le n greatest_number) (lexeme.Token (token.Number (pos n))) lexeme.TooLarge IsGood (λ fits. leb-true n greatest_number fits) (λ _. tt)

-- a sign, or what a backslash begins
sign_good : (found : Option (List ℕ × Mark)) (text : List ℕ) → IsGood (sign_lexeme found text).0
sign_good (Some row) text = tt
sign_good None text =
    let word = backslash_word text in
    cond_both {A = Lexeme × ℕ} (slice_index text 0 == byte "\\") (token_or_stray (fixed_token word), length word) (lexeme.Stray, 1) (λ p. IsGood p.0)
    (λ _. fixed_good (reserved_word word) (left_out_word word)) (λ _. tt)

-- the piece at the head of a text
lexeme_good : (text : List ℕ) → IsGood (lexeme_at text).0
unfolding lexeme_at
lexeme_good text =
    let first = slice_index text 0 in
    let P : Lexeme × ℕ → Type 0 = λ p. IsGood p.0 in
    cond_both (is_space first) (lexeme.Gap, 1) _ P (λ _. tt)
    (λ _. cond_both (first == byte "%") (lexeme.Gap, prefix_len is_in_line text) _ P (λ _. tt)
    (λ _. cond_both (is_ascii_alphabetic first) (word_lexeme (take_while is_in_word text)) _ P (λ letter. word_good text letter)
    (λ _. cond_both (is_ascii_digit first) (number_lexeme (take_while is_ascii_digit text)) (sign_lexeme (sign_at_head text) text) P (λ _. number_good (digits_value 10 (take_while is_ascii_digit text)))
    (λ _. sign_good (sign_at_head text) text))))

-- the tokens of a result
abbrev AreFound : Result (List LocatedToken) CutFault → Type 0
AreFound (Ok located) = AreTokens (map (λ p. p.token) located)
AreFound (Err fault) = Unit {0}

-- a piece, and what is behind it
with_lexeme_good : (offset : ℕ) (p : Lexeme) (after : Result (List LocatedToken) CutFault) → IsGood p → AreFound after → AreFound (with_lexeme offset p after)
with_lexeme_good offset lexeme.Gap after good found = found
with_lexeme_good offset (lexeme.Token t) (Ok located) good found = (good, found)
with_lexeme_good offset (lexeme.Token t) (Err fault) good found = tt
with_lexeme_good offset lexeme.TooLarge after good found = tt
with_lexeme_good offset lexeme.Stray after good found = tt

-- from an offset on
tokens_from_good : (left offset : ℕ) (text : List ℕ) → AreFound (tokens_from left offset text)
tokens_from_good left offset [] = tt
tokens_from_good (suc left) offset (c ∷ text) = tokens_from_good left (offset + 1) text
tokens_from_good zero offset (c ∷ text) =
    let p = lexeme_at (c ∷ text) in
    with_lexeme_good offset p.0 (tokens_from (p.1 - 1) (offset + 1) text) (lexeme_good (c ∷ text)) (tokens_from_good (p.1 - 1) (offset + 1) text)

-- all tokens of a text are such tokens
pub tokens_good : (text : List ℕ) (located : List LocatedToken) → tokens text ≡ Ok located → AreTokens (map (λ p. p.token) located)
unfolding tokens
tokens_good text located is = subst AreFound is (tokens_from_good 0 0 text)
