-- What the reader returns for a text (form), by the text's tokens and the reader's definition.
use Rattle.std.specs.Prelude.{◌≡◌, ◌≢◌, ◌<◌, ◌≤◌, ℕ, List, [], length, Some, None, Result, Ok, Err}
use Rattle.ioa_tokens.specs.declared.token.Token.{Token}
use Rattle.ioa_tokens.specs.declared.token.LocatedToken.{LocatedToken}
use Rattle.ioa_tokens.specs.declared.fault.CutFault.TheVariants as cut
use Rattle.ioa_tokens.specs.Tokens.{tokens}
use Rattle.ioa_cursor.specs.declared.cursor.Unread.{Unread}
use Rattle.ioa_cursor.specs.declared.cursor.Unread.TheVariants as unread
use Rattle.ioa_cursor.specs.Outcome.{offset_of}
use Rattle.ioa_source.specs.TextView.{text_of}
use Rattle.ioa_part_reader.specs.Reading.{whole}
use Rattle.ioa_text_reader.specs.Texts.{length_limit, bare}
use Rattle.ioa_text_reader.specs.declared.fault.FrontFault.{FrontFault}
use Rattle.ioa_text_reader.specs.declared.fault.FrontFault.TheVariants.{Empty, BadCharacter, Unexpected}
use Rattle.ioa_text_reader.specs.declared.fault.FrontFault.TheVariants.{NumberTooLarge, TooDeep, TooLong}
use Rattle.ioa_text_reader.specs.declared.fault.FrontFault.TheVariants.{LeftOut, Memory}
use Rattle.ioa_text_reader.specs.declared.source.Source.{Source}

-- the reader's definition finds a source in the tokens of a text
abbrev pub ReadsAs : Source → List ℕ → Type 0
ReadsAs s text =
    (located : List LocatedToken) × (rest : List Token) ×
    (tokens text ≡ Ok located) × (whole (bare located) ≡ Some (text_of s.text, rest))

-- the reader's definition finds nothing in the tokens of a text, and there are tokens
abbrev pub ReadsNothing : List ℕ → Type 0
ReadsNothing text =
    (located : List LocatedToken) ×
    (tokens text ≡ Ok located) × (whole (bare located) ≡ None) × (located ≢ [])

-- the refusal of a text with these tokens and this length, by how many tokens were left to the reader
abbrev pub refusal_of : Unread → List LocatedToken → ℕ → FrontFault
refusal_of (unread.Unexpected left) located end = Unexpected (offset_of located left end)
refusal_of (unread.TooDeep left) located end = TooDeep (offset_of located left end)
refusal_of (unread.LeftOut w left) located end = LeftOut w (offset_of located left end)
refusal_of unread.Memory located end = Memory

-- what the reader returns for a text
abbrev pub Parses : Result Source FrontFault → List ℕ → Type 0
Parses (Ok s) text = (length text ≤ length_limit) × ReadsAs s text
Parses (Err TooLong) text = length_limit < length text
Parses (Err (BadCharacter offset)) text = (length text ≤ length_limit) × (tokens text ≡ Err (cut.BadCharacter offset))
Parses (Err (NumberTooLarge offset)) text =
    (length text ≤ length_limit) × (tokens text ≡ Err (cut.NumberTooLarge offset))
Parses (Err Empty) text = (length text ≤ length_limit) × (tokens text ≡ Ok [])
Parses (Err (Unexpected offset)) text = (length text ≤ length_limit) × ReadsNothing text
Parses (Err (TooDeep offset)) text = (length text ≤ length_limit) × ReadsNothing text
Parses (Err (LeftOut w offset)) text = (length text ≤ length_limit) × ReadsNothing text
Parses (Err Memory) text = length text ≤ length_limit
