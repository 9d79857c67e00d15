-- A text with one more token.
use Rattle.std.proofs.Common.{◌≡◌, ℕ, List, [], ◌∷◌, ◌++◌, true, Option, Some, None, map, refl, ap, ◌∙◌, ◌+◌, ◌<◌, length, take, get_or, append-nil}
use Rattle.std.proofs.lemmas.List.{take_more, map-append}
use Rattle.ioa_tokens.specs.declared.token.Token.{Token}
use Rattle.ioa_tokens.specs.declared.written.Gap.{Gap}
use Rattle.ioa_tokens.specs.Written.{gap_text, token_text, AreApart}
use Rattle.ioa_tokens.proofs.Apart.{written_appended}
use Rattle.ioa_front.specs.declared.piece.Piece.{Piece}
use Rattle.ioa_front.specs.Pieces.{piece_token}
use Rattle.ioa_front.specs.Printed.{may_begin, last_token, IsWritten}

-- the last of more tokens
pub last_more : (before : Option Token) (ts : List Token) (t : Token) → last_token before (ts ++ t ∷ []) ≡ Some t
last_more before [] t = refl
last_more before (u ∷ ts) t = last_more (Some u) ts t

-- tokens stay apart with one more that may come behind the last
apart_behind : (first : Gap × Token) (ws : List (Gap × Token)) (w : Gap × Token) → AreApart (first ∷ ws) → may_begin (last_token (Some first.1) (map (λ v. v.1) ws)) w ≡ true → AreApart (first ∷ (ws ++ w ∷ []))
apart_behind first [] w apart may = (may, (tt, tt))
apart_behind first (second ∷ ws) w apart may = (apart.0, apart_behind second ws w apart.1 may)

apart_more : (ws : List (Gap × Token)) (w : Gap × Token) → AreApart ws → may_begin (last_token None (map (λ v. v.1) ws)) w ≡ true → AreApart (ws ++ w ∷ [])
apart_more [] w apart may = (tt, tt)
apart_more (first ∷ ws) w apart may = apart_behind first ws w apart may

-- one more token written
pub written_more : (ts : List Token) (text : List ℕ) (w : Gap × Token) → IsWritten ts text → may_begin (last_token None ts) w ≡ true → IsWritten (ts ++ w.1 ∷ []) (text ++ (gap_text w.0 ++ token_text w.1))
written_more ts text w written may =
    let ws = written.0 in
    let names = written.2 in (
      ws ++ w ∷ [],
      rw (written_appended ws (w ∷ []), written.1, append-nil (token_text w.1)) refl,
      map-append (λ (v : Gap × Token). v.1) ws (w ∷ []) ∙ ap (λ us. us ++ w.1 ∷ []) names,
      apart_more ws w written.3 (rw names may),
    )

-- the tokens of one more piece
pub tokens_more : (ps : List Piece) (i : ℕ) (none : Piece) → i < length ps → map piece_token (take (i + 1) ps) ≡ map piece_token (take i ps) ++ piece_token (get_or ps i none) ∷ []
tokens_more ps i none within = rw (take_more ps i none within, map-append piece_token (take i ps) (get_or ps i none ∷ [])) refl
