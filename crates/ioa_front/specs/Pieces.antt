-- The tokens of the pieces of a text, and what it is to put tokens (view).
use Rattle.std.specs.Prelude.{◌≡◌, ◌++◌, List, Result, OnOk}
use Rattle.ioa_tokens.specs.declared.token.Token.{Token}
use Rattle.ioa_tokens.specs.declared.token.Token.TheVariants as token
use Rattle.ioa_front.specs.declared.piece.Piece.{Piece}
use Rattle.ioa_front.specs.declared.piece.Piece.TheVariants as piece

-- the token of a piece
abbrev pub piece_token : Piece → Token
piece_token (piece.Word word) = token.Word word.now
piece_token (piece.Number number) = token.Number number
piece_token (piece.Mark mark) = token.Mark mark

-- a call puts these tokens after those that were put before it
abbrev pub Puts : {E : Type 0} → List Token → Result (Unit {0}) E → List Token → List Token → Type 0
Puts ts result old new = OnOk result (new ≡ old ++ ts)
