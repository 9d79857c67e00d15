-- The text that is written for tokens (profile).
use Rattle.std.specs.Prelude.{ℕ, List, [], ◌∷◌, ◌++◌, ◌≡◌, Bool, true, Option, Some, None, map, codes}
use Rattle.ioa_tokens.specs.declared.token.Token.{Token}
use Rattle.ioa_tokens.specs.declared.written.Gap.{Gap}
use Rattle.ioa_tokens.specs.Written.{written_text, may_follow, AreApart}

-- whether a token may follow the one before it, if there is one, with this gap between
abbrev pub may_begin : Option Token → Gap × Token → Bool
may_begin None next = true
may_begin (Some before) next = may_follow before next

-- the last of these tokens, or the one before them
abbrev pub last_token : Option Token → List Token → Option Token
last_token before [] = before
last_token before (t ∷ more) = last_token (Some t) more

-- a text is these tokens, each after a gap, and none runs into the next
abbrev pub IsWritten : List Token → List ℕ → Type 0
IsWritten ts text = (ws : List (Gap × Token)) × (text ≡ written_text ws) × (map (λ w. w.1) ws ≡ ts) × AreApart ws

-- the same with a line feed at the end
abbrev pub IsPrinted : List Token → List ℕ → Type 0
IsPrinted ts text =
    (ws : List (Gap × Token)) ×
    (text ≡ written_text ws ++ codes "\n") × (map (λ w. w.1) ws ≡ ts) × AreApart ws
