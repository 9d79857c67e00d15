-- The tokens of a text (profile).
use Rattle.std.specs.Prelude.{ℕ, zero, suc, ◌+◌, ◌-◌, List, [], ◌∷◌, Result, Ok, Err}
use Rattle.ioa_tokens.specs.declared.token.LocatedToken.{LocatedToken}
use Rattle.ioa_tokens.specs.declared.fault.CutFault.{CutFault}
use Rattle.ioa_tokens.specs.declared.fault.CutFault.TheVariants.{BadCharacter, NumberTooLarge}
use Rattle.ioa_tokens.specs.declared.lexeme.Lexeme.{Lexeme}
use Rattle.ioa_tokens.specs.declared.lexeme.Lexeme.TheVariants as lexeme
use Rattle.ioa_tokens.specs.Lexeme.{lexeme_at}

-- a piece at an offset, and the tokens of the text after it: the first refusal from the left is the refusal of both
abbrev pub with_lexeme : ℕ → Lexeme → Result (List LocatedToken) CutFault → Result (List LocatedToken) CutFault
with_lexeme offset lexeme.Gap after = after
with_lexeme offset (lexeme.Token t) (Ok ts) = Ok (record { token = t; offset = offset } ∷ ts)
with_lexeme offset (lexeme.Token t) (Err e) = Err e
with_lexeme offset lexeme.TooLarge after = Err (NumberTooLarge offset)
with_lexeme offset lexeme.Stray after = Err (BadCharacter offset)

-- the tokens of a text that begins at an offset, of whose first bytes so many belong to the piece before
abbrev pub tokens_from : ℕ → ℕ → List ℕ → Result (List LocatedToken) CutFault
tokens_from left offset [] = Ok []
tokens_from (suc left) offset (c ∷ text) = tokens_from left (offset + 1) text
tokens_from zero offset (c ∷ text) =
    let piece = lexeme_at (c ∷ text) in
    with_lexeme offset piece.0 (tokens_from (piece.1 - 1) (offset + 1) text)

-- the tokens of a text, or the first character or number that is refused
unfoldable pub tokens : List ℕ → Result (List LocatedToken) CutFault
tokens text = tokens_from 0 0 text
