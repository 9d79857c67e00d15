-- The piece at the head of a text, and how many bytes it has (profile).
use Rattle.std.specs.Prelude.{ℕ, ◌+◌, List, length, take, drop, slice_index, Option, Some, None, unwrap_or, pos}
use Rattle.std.specs.Prelude.{Bool, not, ◌||◌, ◌==◌, nat_le, if◌then◌else◌}
use Rattle.std.specs.List.{prefix_len, take_while}
use Rattle.std.specs.Char.{is_ascii_alphabetic, is_ascii_alphanumeric, is_ascii_digit}
use Rattle.std.specs.Str.{byte}
use Rattle.std.specs.Str.Parse.{digits_value}
use Rattle.std.specs.Option.{option_map, option_or}
use Rattle.ioa_tokens.specs.declared.mark.Mark.{Mark}
use Rattle.ioa_tokens.specs.declared.token.Token.{Token}
use Rattle.ioa_tokens.specs.declared.token.Token.TheVariants as token
use Rattle.ioa_tokens.specs.declared.lexeme.Lexeme.{Lexeme}
use Rattle.ioa_tokens.specs.declared.lexeme.Lexeme.TheVariants as lexeme
use Rattle.ioa_tokens.specs.declared.lexeme.TheConstants.{GREATEST}
use Rattle.ioa_tokens.specs.Tables.{sign_at_head, reserved_word, left_out_word}

-- white space is space, tab, carriage return and line feed
abbrev pub is_space : ℕ → Bool
is_space c = (c == byte " ") || (c == 9) || (c == 13) || (c == 10)

-- a line goes on up to the line feed
abbrev pub is_in_line : ℕ → Bool
is_in_line c = not (c == 10)

-- a word goes on with letters, digits and `_`
abbrev pub is_in_word : ℕ → Bool
is_in_word c = is_ascii_alphanumeric c || (c == byte "_")

-- a backslash and the letters after it
abbrev pub backslash_word : List ℕ → List ℕ
backslash_word text = take (1 + prefix_len is_ascii_alphabetic (drop 1 text)) text

-- the token of a word that is reserved or left out
abbrev pub fixed_token : List ℕ → Option Token
fixed_token word =
    option_or (option_map token.Mark (reserved_word word)) (option_map token.LeftOut (left_out_word word))

-- a word that is neither reserved nor left out is a name
abbrev pub word_lexeme : List ℕ → Lexeme × ℕ
word_lexeme word = (lexeme.Token (unwrap_or (fixed_token word) (token.Word word)), length word)

-- the greatest number: 2 ^ 63 - 1
abbrev pub greatest_number : ℕ
greatest_number = GREATEST

-- a number above the greatest is too large
abbrev pub number_or_too_large : ℕ → Lexeme
number_or_too_large n = if nat_le n greatest_number then lexeme.Token (token.Number (pos n)) else lexeme.TooLarge

-- the number that digits write
abbrev pub number_lexeme : List ℕ → Lexeme × ℕ
number_lexeme digits = (number_or_too_large (digits_value 10 digits), length digits)

-- a token, if these characters are one
abbrev pub token_or_stray : Option Token → Lexeme
token_or_stray (Some t) = lexeme.Token t
token_or_stray None = lexeme.Stray

-- the longest sign; if there is none, the word that a backslash begins; otherwise a character that begins no token
abbrev pub sign_lexeme : Option (List ℕ × Mark) → List ℕ → Lexeme × ℕ
sign_lexeme (Some row) text = (lexeme.Token (token.Mark row.1), length row.0)
sign_lexeme None text =
    let word = backslash_word text in
    if slice_index text 0 == byte "\\" then (token_or_stray (fixed_token word), length word)
    else (lexeme.Stray, 1)

-- the piece at the head of a text, by its first character
unfoldable pub lexeme_at : List ℕ → Lexeme × ℕ
lexeme_at text =
    let first = slice_index text 0 in
    if is_space first then (lexeme.Gap, 1)
    else (if first == byte "%" then (lexeme.Gap, prefix_len is_in_line text)
    else (if is_ascii_alphabetic first then word_lexeme (take_while is_in_word text)
    else (if is_ascii_digit first then number_lexeme (take_while is_ascii_digit text)
    else sign_lexeme (sign_at_head text) text)))
