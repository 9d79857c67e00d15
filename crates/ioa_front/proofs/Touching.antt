-- What print joins may touch.
use Rattle.std.proofs.Common.{◌≡◌, [], ◌∷◌, true, refl, sym, true≢false, ⊎_elim}
use Rattle.std.specs.Prelude.{◌||◌, ◌&&◌}
use Rattle.std.proofs.lemmas.Bool.{or_cases, and_parts}
use Rattle.ioa_tokens.specs.declared.token.Token.{Token}
use Rattle.ioa_tokens.specs.declared.token.Token.TheVariants as token
use Rattle.ioa_tokens.specs.declared.mark.Mark.TheVariants as mark
use Rattle.ioa_tokens.specs.declared.written.Gap.TheVariants as gap
use Rattle.ioa_tokens.specs.Tables.{mark_text, signs, reserved}
use Rattle.ioa_tokens.specs.Written.{may_touch}
use Rattle.ioa_tokens.proofs.Apart.{loose_touches, apart_from_closed}
use Rattle.ioa_front.specs.Touching.{is_opening, is_part_end, follows_any, precedes_any, is_prefix, is_plain, touches}

-- a bracket that opens may come right behind any token
opens : (t u : Token) → is_opening u ≡ true → may_touch t u ≡ true
unfolding mark_text signs reserved
opens t (token.Mark mark.OpenRound) e = loose_touches t mark.OpenRound refl
opens t (token.Mark mark.OpenSquare) e = loose_touches t mark.OpenSquare refl
opens t (token.Mark mark.OpenBrace) e = loose_touches t mark.OpenBrace refl
opens t _ e = absurd (true≢false (sym e))

-- so may one that closes, a sign that ends a part, and the sign of `x@k`
ends : (t u : Token) → is_part_end u ≡ true → may_touch t u ≡ true
unfolding mark_text signs reserved
ends t (token.Mark mark.CloseRound) e = loose_touches t mark.CloseRound refl
ends t (token.Mark mark.CloseSquare) e = loose_touches t mark.CloseSquare refl
ends t (token.Mark mark.CloseBrace) e = loose_touches t mark.CloseBrace refl
ends t (token.Mark mark.Dot) e = loose_touches t mark.Dot refl
ends t (token.Mark mark.Comma) e = loose_touches t mark.Comma refl
ends t (token.Mark mark.Semicolon) e = loose_touches t mark.Semicolon refl
ends t (token.Mark mark.Colon) e = loose_touches t mark.Colon refl
ends t (token.Mark mark.AtSign) e = loose_touches t mark.AtSign refl
ends t _ e = absurd (true≢false (sym e))

-- any token may come right behind these
precedes : (t u : Token) → precedes_any t ≡ true → may_touch t u ≡ true
precedes (token.Mark mark.OpenRound) u e = apart_from_closed mark.OpenRound ((gap.Joined, u) ∷ []) refl
precedes (token.Mark mark.OpenSquare) u e = apart_from_closed mark.OpenSquare ((gap.Joined, u) ∷ []) refl
precedes (token.Mark mark.OpenBrace) u e = apart_from_closed mark.OpenBrace ((gap.Joined, u) ∷ []) refl
precedes (token.Mark mark.Dot) u e = apart_from_closed mark.Dot ((gap.Joined, u) ∷ []) refl
precedes (token.Mark mark.AtSign) u e = apart_from_closed mark.AtSign ((gap.Joined, u) ∷ []) refl
precedes _ u e = absurd (true≢false (sym e))

-- a name, a number or a truth value may come right behind an operator before a term
operand : (t u : Token) → is_prefix t ≡ true → is_plain u ≡ true → may_touch t u ≡ true
unfolding mark_text signs reserved
operand (token.Mark mark.Minus) (token.Word word) e f = refl
operand (token.Mark mark.Minus) (token.Number number) e f = refl
operand (token.Mark mark.Minus) (token.Mark mark.True) e f = refl
operand (token.Mark mark.Minus) (token.Mark mark.False) e f = refl
operand (token.Mark mark.Not) (token.Word word) e f = refl
operand (token.Mark mark.Not) (token.Number number) e f = refl
operand (token.Mark mark.Not) (token.Mark mark.True) e f = refl
operand (token.Mark mark.Not) (token.Mark mark.False) e f = refl
operand (token.Mark mark.Minus) _ e f = absurd (true≢false (sym f))
operand (token.Mark mark.Not) _ e f = absurd (true≢false (sym f))
operand _ u e f = absurd (true≢false (sym e))

-- what passes the test may touch
pub touches_may : (t u : Token) → touches t u ≡ true → may_touch t u ≡ true
touches_may t u e =
    ⊎_elim (λ first. ⊎_elim (λ opening. opens t u opening) (λ end. ends t u end) (or_cases (is_opening u) (is_part_end u) first))
    (λ other. ⊎_elim (λ second. precedes t u second)
    (λ third. let parts = and_parts (is_prefix t) (is_plain u) third in operand t u parts.0 parts.1)
    (or_cases (precedes_any t) (is_prefix t && is_plain u) other))
    (or_cases (follows_any u) (precedes_any t || (is_prefix t && is_plain u)) e)
