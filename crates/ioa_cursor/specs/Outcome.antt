-- What a reader of one production returns (form), and its refusals (profile).
use Rattle.std.specs.Prelude.{ℕ, ◌≡◌, ◌⊎◌, ◌-◌, List, [], ◌∷◌, Option, Some, None, Result, Ok, Err, length, slice_get}
use Rattle.std.specs.Prelude.{Bool, if◌then◌else◌}
use Rattle.std.specs.Option.{option_map, unwrap_or}
use Rattle.ioa_tokens.specs.declared.token.LocatedToken.{LocatedToken}
use Rattle.ioa_tokens.specs.declared.token.Token.{Token}
use Rattle.ioa_tokens.specs.declared.token.Token.TheVariants as token
use Rattle.ioa_cursor.specs.declared.cursor.Unread.{Unread}
use Rattle.ioa_cursor.specs.declared.cursor.Unread.TheVariants as unread

-- the call reads what `read` reads, seen through `view`, and leaves the tokens `new`; if `read` finds nothing, the call
-- refuses
abbrev pub Reads : {X A : Type 0} → (X → A) → Option (A × List Token) → Result X Unread → List Token → Type 0
Reads view read (Ok x) new = read ≡ Some (view x, new)
Reads view read (Err e) new = (e ≡ unread.Memory) ⊎ (read ≡ None)

-- the refusal of the next token, by how many tokens are left: `LeftOut` (16) of a word that the profile leaves out,
-- otherwise `Unexpected` (12)
abbrev pub refusal : List Token → Unread
refusal (token.LeftOut w ∷ xs) = unread.LeftOut w (length (token.LeftOut w ∷ xs))
refusal (token.Word w ∷ xs) = unread.Unexpected (length (token.Word w ∷ xs))
refusal (token.Number n ∷ xs) = unread.Unexpected (length (token.Number n ∷ xs))
refusal (token.Mark m ∷ xs) = unread.Unexpected (length (token.Mark m ∷ xs))
refusal [] = unread.Unexpected 0

-- the refusal at the greatest depth: `TooDeep` (14) if a part begins, which would be too deep, otherwise that of the
-- next token
abbrev pub refusal_at_depth : Bool → List Token → Unread
refusal_at_depth begins xs = if begins then unread.TooDeep (length xs) else refusal xs

-- the offset of the token at which so many were left, or the end of the text if there is no such token
abbrev pub offset_of : List LocatedToken → ℕ → ℕ → ℕ
offset_of ps left end = unwrap_or (option_map (λ p. p.offset) (slice_get ps (length ps - left))) end
