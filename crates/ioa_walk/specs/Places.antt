-- Where parts of a text stand (profile).
use Rattle.std.specs.Prelude.{ℕ, ◌+◌, ◌<◌, ◌≡◌, List, length, drop, Some, Ok, slice_get}
use Rattle.std.specs.List.{prefix_len}
use Rattle.std.specs.Char.{is_ascii_digit}
use Rattle.std.specs.Option.{option_map}
use Rattle.ioa_tokens.specs.declared.token.Token.{Token}
use Rattle.ioa_tokens.specs.declared.token.Token.TheVariants as token
use Rattle.ioa_tokens.specs.declared.token.LocatedToken.{LocatedToken}
use Rattle.ioa_tokens.specs.Tables.{mark_text}
use Rattle.ioa_tokens.specs.Tokens.{tokens}
use Rattle.ioa_walk.specs.declared.part.Part.{Part}
use Rattle.ioa_walk.specs.declared.span.Span.{Span}

-- how many bytes a token has that stands at an offset of a text; a text that is read has no left-out words
abbrev pub size_at : List ℕ → ℕ → Token → ℕ
size_at text offset (token.Word w) = length w
size_at text offset (token.Number n) = prefix_len is_ascii_digit (drop offset text)
size_at text offset (token.Mark m) = length (mark_text m)
size_at text offset (token.LeftOut w) = 0

-- the offset behind a token of a text
abbrev pub end_of : List ℕ → LocatedToken → ℕ
end_of text t = t.offset + size_at text t.offset t.token

-- the place of a part of these tokens of a text: from the first byte of its first token to the end of its last one, and
-- not empty
pub record IsSpanOf (text : List ℕ) (ts : List LocatedToken) (part : Part) (s : Span) : Type 0 where
  pub begins : option_map (λ t. t.offset) (slice_get ts part.first) ≡ Some s.offset
  pub ends : option_map (end_of text) (slice_get ts part.last) ≡ Some s.end
  pub filled : s.offset < s.end

-- a place in a text: that of a part of its tokens
pub record IsSpanIn (text : List ℕ) (s : Span) : Type 0 where
  pub ts : List LocatedToken
  pub cut : tokens text ≡ Ok ts
  pub part : Part
  pub span : IsSpanOf text ts part s
