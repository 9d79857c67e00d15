-- The tokens of a line that spells values (profile). They are those of a text, but right behind a `-` digits may also
-- write the amount of the least number, 2 ^ 63: they are then the token of the least number itself.
use Rattle.std.specs.Prelude.{ℕ, zero, suc, ◌+◌, ◌-◌, List, [], ◌∷◌, Result, Ok, nat_eq, negsuc, Option, Some, None}
use Rattle.std.specs.Prelude.{Bool, false, ◌&&◌, ◌==◌, if◌then◌else◌}
use Rattle.std.specs.List.{take_while}
use Rattle.std.specs.Char.{is_ascii_digit}
use Rattle.std.specs.Str.{byte}
use Rattle.std.specs.Str.Parse.{digits_value}
use Rattle.ioa_tokens.specs.declared.mark.Mark.{Mark}
use Rattle.ioa_tokens.specs.declared.mark.Mark.TheVariants as mark
use Rattle.ioa_tokens.specs.declared.token.Token.{Token}
use Rattle.ioa_tokens.specs.declared.token.Token.TheVariants as token
use Rattle.ioa_tokens.specs.declared.token.LocatedToken.{LocatedToken}
use Rattle.ioa_tokens.specs.declared.fault.CutFault.{CutFault}
use Rattle.ioa_tokens.specs.declared.lexeme.Lexeme.{Lexeme}
use Rattle.ioa_tokens.specs.declared.lexeme.Lexeme.TheVariants as lexeme
use Rattle.ioa_tokens.specs.Tables.{same_mark}
use Rattle.ioa_tokens.specs.Lexeme.{greatest_number, lexeme_at}
use Rattle.ioa_tokens.specs.Tokens.{with_lexeme}

-- whether digits write the amount of the least number: 2 ^ 63
abbrev pub is_least_amount : List ℕ → Bool
is_least_amount digits = nat_eq (digits_value 10 digits) (greatest_number + 1)

-- the token of the least number: - 2 ^ 63
abbrev pub least_number : Token
least_number = token.Number (negsuc greatest_number)

-- a number that is too large, but for the least number behind a `-`
abbrev pub least_or_too_large : Bool → List ℕ → Lexeme
least_or_too_large minus digits =
    if minus && is_least_amount digits then lexeme.Token least_number else lexeme.TooLarge

-- the piece at the head of a text, which may stand behind a `-`
abbrev pub behind_minus : Bool → List ℕ → Lexeme → Lexeme
behind_minus minus text lexeme.Gap = lexeme.Gap
behind_minus minus text (lexeme.Token t) = lexeme.Token t
behind_minus minus text lexeme.TooLarge = least_or_too_large minus (take_while is_ascii_digit text)
behind_minus minus text lexeme.Stray = lexeme.Stray

-- the piece at the head of a text, and how many bytes it has
unfoldable pub line_lexeme_at : Bool → List ℕ → Lexeme × ℕ
line_lexeme_at minus text = let piece = lexeme_at text in (behind_minus minus text piece.0, piece.1)

-- whether a token is the sign `-`
abbrev pub is_minus : Token → Bool
is_minus (token.Word word) = false
is_minus (token.Number number) = false
is_minus (token.Mark m) = same_mark m mark.Minus
is_minus (token.LeftOut word) = false

-- whether what comes after a piece stands behind a `-`: white space and comments change nothing
abbrev pub minus_after : Bool → Lexeme → Bool
minus_after minus lexeme.Gap = minus
minus_after minus (lexeme.Token t) = is_minus t
minus_after minus lexeme.TooLarge = false
minus_after minus lexeme.Stray = false

-- the tokens of a text that begins at an offset, of whose first bytes so many belong to the piece before
abbrev pub line_tokens_from : Bool → ℕ → ℕ → List ℕ → Result (List LocatedToken) CutFault
line_tokens_from minus left offset [] = Ok []
line_tokens_from minus (suc left) offset (c ∷ text) = line_tokens_from minus left (offset + 1) text
line_tokens_from minus zero offset (c ∷ text) =
    let piece = line_lexeme_at minus (c ∷ text) in
    with_lexeme offset piece.0 (line_tokens_from (minus_after minus piece.0) (piece.1 - 1) (offset + 1) text)

-- the tokens of a line, or the first character or number that is refused
unfoldable pub line_tokens : List ℕ → Result (List LocatedToken) CutFault
line_tokens text = line_tokens_from false 0 0 text

-- the sign that is a byte alone, whatever comes next
abbrev pub lone_sign : ℕ → Option Mark
lone_sign c =
    if c == byte "," then Some mark.Comma
    else (if c == byte "(" then Some mark.OpenRound
    else (if c == byte ")" then Some mark.CloseRound
    else (if c == byte "@" then Some mark.AtSign
    else (if c == byte "[" then Some mark.OpenSquare
    else (if c == byte "]" then Some mark.CloseSquare
    else (if c == byte "{" then Some mark.OpenBrace
    else (if c == byte "}" then Some mark.CloseBrace
    else None)))))))
