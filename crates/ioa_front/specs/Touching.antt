-- Whether a token may follow another without a gap (form): a test that is enough for the tokens that print joins.
use Rattle.std.specs.Prelude.{Bool, true, false, ◌||◌, ◌&&◌}
use Rattle.ioa_tokens.specs.declared.token.Token.{Token}
use Rattle.ioa_tokens.specs.declared.token.Token.TheVariants as token
use Rattle.ioa_tokens.specs.declared.mark.Mark.TheVariants as mark

-- the brackets that open
abbrev pub is_opening : Token → Bool
is_opening (token.Mark mark.OpenRound) = true
is_opening (token.Mark mark.OpenSquare) = true
is_opening (token.Mark mark.OpenBrace) = true
is_opening _ = false

-- the brackets that close, the signs that end a part, and the sign of `x@k`
abbrev pub is_part_end : Token → Bool
is_part_end (token.Mark mark.CloseRound) = true
is_part_end (token.Mark mark.CloseSquare) = true
is_part_end (token.Mark mark.CloseBrace) = true
is_part_end (token.Mark mark.Dot) = true
is_part_end (token.Mark mark.Comma) = true
is_part_end (token.Mark mark.Semicolon) = true
is_part_end (token.Mark mark.Colon) = true
is_part_end (token.Mark mark.AtSign) = true
is_part_end _ = false

-- the tokens that may follow any token without a gap
abbrev pub follows_any : Token → Bool
follows_any t = is_opening t || is_part_end t

-- the tokens that any token may follow without a gap
abbrev pub precedes_any : Token → Bool
precedes_any (token.Mark mark.OpenRound) = true
precedes_any (token.Mark mark.OpenSquare) = true
precedes_any (token.Mark mark.OpenBrace) = true
precedes_any (token.Mark mark.Dot) = true
precedes_any (token.Mark mark.AtSign) = true
precedes_any _ = false

-- the operators before a term
abbrev pub is_prefix : Token → Bool
is_prefix (token.Mark mark.Minus) = true
is_prefix (token.Mark mark.Not) = true
is_prefix _ = false

-- names, numbers and truth values
abbrev pub is_plain : Token → Bool
is_plain (token.Word word) = true
is_plain (token.Number number) = true
is_plain (token.Mark mark.True) = true
is_plain (token.Mark mark.False) = true
is_plain _ = false

-- whether the second token may follow the first without a gap, by one of these rules
abbrev pub touches : Token → Token → Bool
touches before after = follows_any after || (precedes_any before || (is_prefix before && is_plain after))
