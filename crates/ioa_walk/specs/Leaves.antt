-- What a walk over tokens finds (form).
use Rattle.std.specs.Prelude.{ℕ, ℤ, Bool, true, false, ◌||◌, ◌≡◌, List, Some, slice_get, if◌then◌else◌}
use Rattle.std.specs.Option.{option_map}
use Rattle.std.specs.Ordering.{int_eq}
use Rattle.std.specs.Str.{bytes_eq}
use Rattle.ioa_tokens.specs.declared.mark.Mark.{Mark}
use Rattle.ioa_tokens.specs.declared.mark.Mark.TheVariants as mark
use Rattle.ioa_tokens.specs.declared.token.Token.{Token}
use Rattle.ioa_tokens.specs.declared.token.Token.TheVariants as token
use Rattle.ioa_tokens.specs.declared.token.LocatedToken.{LocatedToken}
use Rattle.ioa_tokens.specs.Tables.{same_mark}

-- whether a token is a sign or a reserved word
abbrev pub is_mark : Mark → Token → Bool
is_mark m (token.Mark k) = same_mark k m
is_mark m (token.Word w) = false
is_mark m (token.Number n) = false
is_mark m (token.LeftOut w) = false

-- whether a token is a word
abbrev pub is_word : List ℕ → Token → Bool
is_word w (token.Word x) = bytes_eq x w
is_word w (token.Mark m) = false
is_word w (token.Number n) = false
is_word w (token.LeftOut x) = false

-- whether a token is some word
abbrev pub is_any_word : Token → Bool
is_any_word (token.Word w) = true
is_any_word (token.Mark m) = false
is_any_word (token.Number n) = false
is_any_word (token.LeftOut w) = false

-- the reserved word of a truth value
abbrev pub truth_mark : Bool → Mark
truth_mark b = if b then mark.True else mark.False

-- whether a token closes a bracket
abbrev pub is_closing : Token → Bool
is_closing t = is_mark mark.CloseRound t || (is_mark mark.CloseSquare t || is_mark mark.CloseBrace t)

-- whether a token is a number
abbrev pub is_number : ℤ → Token → Bool
is_number n (token.Number k) = int_eq k n
is_number n (token.Word w) = false
is_number n (token.Mark m) = false
is_number n (token.LeftOut w) = false

-- the token at a position passes a test
abbrev pub PassesAt : (Token → Bool) → List LocatedToken → ℕ → Type 0
PassesAt test ts p = option_map (λ t. test t.token) (slice_get ts p) ≡ Some true
