-- Where declarations and tokens stand (profile).
use Rattle.std.specs.Prelude.{ℕ, ◌≡◌, ◌+◌, Bool, true, false, List, length, take, drop}
use Rattle.std.specs.Char.{is_ascii_digit}
use Rattle.std.specs.List.{count_by, prefix_len}
use Rattle.ioa_tokens.specs.declared.mark.Mark.{Mark}
use Rattle.ioa_tokens.specs.declared.mark.Mark.TheVariants as mark
use Rattle.ioa_tokens.specs.declared.token.Token.{Token}
use Rattle.ioa_tokens.specs.declared.token.Token.TheVariants as token
use Rattle.ioa_tokens.specs.declared.token.LocatedToken.{LocatedToken}
use Rattle.ioa_tokens.specs.Tables.{mark_text, left_out_text}

-- the reserved words that begin a top declaration; no other part of a text has them
abbrev pub is_beginning : Mark → Bool
is_beginning mark.Type = true
is_beginning mark.Automaton = true
is_beginning mark.System = true
is_beginning mark.Invariant = true
is_beginning _ = false

abbrev pub begins_declaration : Token → Bool
begins_declaration (token.Mark m) = is_beginning m
begins_declaration (token.Word w) = false
begins_declaration (token.Number n) = false
begins_declaration (token.LeftOut w) = false

abbrev pub begins : LocatedToken → Bool
begins t = begins_declaration t.token

-- the declaration of an index begins at a position: as many begin before it, and one more up to it
pub record IsDeclarationAt (tokens : List LocatedToken) (index place : ℕ) : Type 0 where
  pub before : count_by begins (take place tokens) ≡ index
  pub here : count_by begins (take (place + 1) tokens) ≡ index + 1

-- how many bytes a token has at an offset of a text: a number has as many as there are digits
abbrev pub token_length : List ℕ → Token → ℕ → ℕ
token_length text (token.Word word) offset = length word
token_length text (token.Number number) offset = prefix_len is_ascii_digit (drop offset text)
token_length text (token.Mark m) offset = length (mark_text m)
token_length text (token.LeftOut word) offset = length (left_out_text word)
