-- What is written in one line has no line feed in it.
use Rattle.std.proofs.Common.{◌≡◌, ℕ, suc, ◌^◌, ◌<◌, Bool, true, false, not, ◌==◌, List, [], ◌∷◌, ◌++◌, refl, arith, pos, negsuc, decimal}
use Rattle.std.specs.List.{list_all, AllByRecursion}
use Rattle.std.specs.Char.{is_ascii_digit}
use Rattle.std.proofs.lemmas.Bool.{and_parts}
use Rattle.std.proofs.lemmas.Bool.Decides.{nat_tests}
use Rattle.std.proofs.lemmas.Fmt.{decimal_is_IsNumeral}
use Rattle.ioa_tokens.specs.declared.mark.Mark.{Mark}
use Rattle.ioa_tokens.specs.declared.mark.Mark.TheVariants as mark
use Rattle.ioa_tokens.specs.declared.mark.LeftOut.{LeftOut}
use Rattle.ioa_tokens.specs.declared.mark.LeftOut.TheVariants as left_out
use Rattle.ioa_tokens.specs.declared.token.Token.{Token}
use Rattle.ioa_tokens.specs.declared.token.Token.TheVariants as token
use Rattle.ioa_tokens.specs.declared.written.Gap.{Gap}
use Rattle.ioa_tokens.specs.declared.written.Gap.TheVariants as gap
use Rattle.ioa_tokens.specs.Lexeme.{is_in_word}
use Rattle.ioa_tokens.specs.LineTokens.{is_minus}
use Rattle.ioa_tokens.specs.Tables.{mark_text, left_out_text, signs, reserved, left_out_words}
use Rattle.ioa_tokens.specs.Written.{gap_text}
use Rattle.ioa_tokens.proofs.Lexemes.{digits_by_code}
use Rattle.ioa_printed_lines.proofs.WrittenLines.{amount_text, line_text, IsInLine, IsLineToken, AreLineTokens}

-- a text without line feeds
abbrev pub IsOneLine : List ℕ → Type 0
IsOneLine text = AllByRecursion (λ c. (c == 10) ≡ false) text

-- one behind the other
pub joined_line : (xs ys : List ℕ) → IsOneLine xs → IsOneLine ys → IsOneLine (xs ++ ys)
joined_line [] ys first second = second
joined_line (x ∷ xs) ys first second = (first.0, joined_line xs ys first.1 second)

-- characters that no line feed is one of
other_characters : (p : ℕ → Bool) (text : List ℕ) → ((c : ℕ) → p c ≡ true → (c == 10) ≡ false) → list_all p text ≡ true → IsOneLine text
other_characters p [] other all = tt
other_characters p (c ∷ text) other all =
    let both = and_parts (p c) (list_all p text) all in
    (other c both.0, other_characters p text other both.1)

in_word_other : (c : ℕ) → is_in_word c ≡ true → (c == 10) ≡ false
in_word_other c passes = grind (arith, nat_tests)

digit_other : (c : ℕ) → is_ascii_digit c ≡ true → (c == 10) ≡ false
digit_other c passes = grind (arith, nat_tests)

not_other : (c : ℕ) → not (c == 10) ≡ true → (c == 10) ≡ false
not_other c passes = grind (arith, nat_tests)

-- a number
pub decimal_line : (n : ℕ) → n < 2 ^ 64 → IsOneLine (decimal n)
decimal_line n low =
    let numeral = decimal_is_IsNumeral n low in
    other_characters is_ascii_digit (decimal n) digit_other (digits_by_code (decimal n) numeral.0.1)

-- a mark, and a left-out word
mark_line : (m : Mark) → list_all (λ c. not (c == 10)) (mark_text m) ≡ true
unfolding mark_text signs reserved
mark_line mark.Equivalent = refl
mark_line _ = refl

left_out_line : (w : LeftOut) → list_all (λ c. not (c == 10)) (left_out_text w) ≡ true
unfolding left_out_text left_out_words
left_out_line left_out.Uses = refl
left_out_line _ = refl

-- a token of a line
token_line : (minus : Bool) (t : Token) → IsLineToken minus t → IsOneLine (amount_text t)
token_line minus (token.Word word) good = other_characters is_in_word word in_word_other good.1
token_line minus (token.Number (pos n)) good = decimal_line n (omega arith)
token_line minus (token.Number (negsuc n)) good = decimal_line (suc n) (omega (arith, good.1))
token_line minus (token.Mark m) good = other_characters (λ c. not (c == 10)) (mark_text m) not_other (mark_line m)
token_line minus (token.LeftOut w) good = other_characters (λ c. not (c == 10)) (left_out_text w) not_other (left_out_line w)

-- a gap within a line
gap_line : (g : Gap) → IsInLine g → IsOneLine (gap_text g)
gap_line gap.Joined within = tt
gap_line gap.Spaced within = (refl, tt)
gap_line (gap.NewLine indent) within = absurd within

-- the tokens of a line
pub line_line : (minus : Bool) (ws : List (Gap × Token)) → AreLineTokens minus ws → IsOneLine (line_text ws)
line_line minus [] good = tt
line_line minus (w ∷ ws) good =
    joined_line (gap_text w.0) (amount_text w.1 ++ line_text ws) (gap_line w.0 good.0)
    (joined_line (amount_text w.1) (line_text ws) (token_line minus w.1 good.1) (line_line (is_minus w.1) ws good.3))
