-- How tokens are written as text, and which two of them need white space between (profile).
use Rattle.std.specs.Prelude.{ℕ, List, [], ◌∷◌, ◌++◌, ◌≡◌, ◌≤◌, codes, slice_index, nat_eq, None, pos, negsuc}
use Rattle.std.specs.Prelude.{Bool, true, false, not, if◌then◌else◌}
use Rattle.std.specs.List.{AllByRecursion, list_any, list_all, repeat, starts_with}
use Rattle.std.specs.Char.{is_ascii_alphabetic}
use Rattle.std.specs.Fmt.{signed_decimal}
use Rattle.ioa_tokens.specs.declared.token.Token.{Token}
use Rattle.ioa_tokens.specs.declared.token.Token.TheVariants as token
use Rattle.ioa_tokens.specs.declared.written.Gap.{Gap}
use Rattle.ioa_tokens.specs.declared.written.Gap.TheVariants as gap
use Rattle.ioa_tokens.specs.Tables.{mark_text, left_out_text, signs}
use Rattle.ioa_tokens.specs.Lexeme.{is_in_word, fixed_token, greatest_number}

-- how a token is written: a number in decimal digits
abbrev pub token_text : Token → List ℕ
token_text (token.Word word) = word
token_text (token.Number number) = signed_decimal number
token_text (token.Mark mark) = mark_text mark
token_text (token.LeftOut word) = left_out_text word

-- what is written before a token: nothing, a space, or a line feed and as many spaces as the line is indented
abbrev pub gap_text : Gap → List ℕ
gap_text gap.Joined = []
gap_text gap.Spaced = codes " "
gap_text (gap.NewLine indent) = codes "\n" ++ repeat indent (codes " ")

-- the text of tokens, each behind its gap
abbrev pub written_text : List (Gap × Token) → List ℕ
written_text [] = []
written_text (first ∷ more) = gap_text first.0 ++ (token_text first.1 ++ written_text more)

-- how a token begins: with a letter, with a digit, or with the character of a sign
pub data Head : Type 0 where
  letter : Head
  digit : Head
  sign : ℕ → Head

-- how the text of a mark or of a left-out word begins
abbrev pub text_head : List ℕ → Head
text_head text = if is_ascii_alphabetic (slice_index text 0) then letter else sign (slice_index text 0)

-- how a token begins
abbrev pub token_head : Token → Head
token_head (token.Word word) = letter
token_head (token.Number number) = digit
token_head (token.Mark mark) = text_head (mark_text mark)
token_head (token.LeftOut word) = text_head (left_out_text word)

-- a word ends if a sign comes next
abbrev pub word_ends : Head → Bool
word_ends letter = false
word_ends digit = false
word_ends (sign first) = true

-- a number ends if no digit comes next
abbrev pub number_ends : Head → Bool
number_ends letter = true
number_ends digit = false
number_ends (sign first) = true

-- the letters after a backslash end if no letter comes next
abbrev pub letters_end : Head → Bool
letters_end letter = false
letters_end digit = true
letters_end (sign first) = true

-- whether a longer sign begins with a sign and one more character
abbrev pub begins_longer : List ℕ → ℕ → Bool
begins_longer text next = list_any (λ row. starts_with nat_eq row.0 (text ++ next ∷ [])) signs

-- a sign ends if no longer sign begins with it and the next character
abbrev pub sign_ends : List ℕ → Head → Bool
sign_ends text letter = true
sign_ends text digit = true
sign_ends text (sign next) = not (begins_longer text next)

-- the text of a mark or of a left-out word is a word, a backslash with letters, or a sign, and ends as these do
abbrev pub spelling_ends : List ℕ → Head → Bool
spelling_ends text next =
    if is_ascii_alphabetic (slice_index text 0) then word_ends next
    else (if is_ascii_alphabetic (slice_index text 1) then letters_end next
    else sign_ends text next)

-- whether a token ends if the next one begins so
abbrev pub token_ends : Token → Head → Bool
token_ends (token.Word word) next = word_ends next
token_ends (token.Number number) next = number_ends next
token_ends (token.Mark mark) next = spelling_ends (mark_text mark) next
token_ends (token.LeftOut word) next = spelling_ends (left_out_text word) next

-- whether the second token may follow the first with nothing between
abbrev pub may_touch : Token → Token → Bool
may_touch first second = token_ends first (token_head second)

-- a name: a letter, then letters, digits and `_`, neither reserved nor left out
abbrev pub IsName : List ℕ → Type 0
IsName word =
    (is_ascii_alphabetic (slice_index word 0) ≡ true) × (list_all is_in_word word ≡ true) × (fixed_token word ≡ None)

-- the tokens that a text can have
abbrev pub IsToken : Token → Type 0
IsToken (token.Word word) = IsName word
IsToken (token.Number (pos number)) = number ≤ greatest_number
IsToken (token.Number (negsuc number)) = ⊥
IsToken (token.Mark mark) = Unit {0}
IsToken (token.LeftOut word) = Unit {0}

-- all of these are such tokens
abbrev pub AreTokens : List Token → Type 0
AreTokens ts = AllByRecursion IsToken ts

-- whether a token may follow another with this gap between
abbrev pub may_follow : Token → Gap × Token → Bool
may_follow before (gap.Joined, after) = may_touch before after
may_follow before (gap.Spaced, after) = true
may_follow before (gap.NewLine indent, after) = true

-- the first of these tokens may follow a token
abbrev pub IsApartFrom : Token → List (Gap × Token) → Type 0
IsApartFrom before [] = Unit {0}
IsApartFrom before (first ∷ more) = may_follow before first ≡ true

-- no token runs into the one behind it
abbrev pub AreApart : List (Gap × Token) → Type 0
AreApart [] = Unit {0}
AreApart (first ∷ more) = IsApartFrom first.1 more × AreApart more
