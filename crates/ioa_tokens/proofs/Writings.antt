-- The tokens of a text that was written are the tokens that were written.
use Rattle.std.proofs.Common.{◌≡◌, ℕ, zero, suc, ◌+◌, ◌-◌, ◌<◌, true, List, [], ◌∷◌, ◌++◌, length, drop, Ok, codes, refl, sym, ap, arith, ◌∙◌, append_assoc, append-nil, add-zero}
use Rattle.std.specs.List.{list_all, repeat}
use Rattle.std.specs.Prelude.{map}
use Rattle.std.proofs.lemmas.Bool.{and_parts}
use Rattle.std.proofs.Math.Seq.{drop-append_seam}
use Rattle.ioa_tokens.specs.declared.token.LocatedToken.{LocatedToken}
use Rattle.ioa_tokens.specs.declared.token.Token.{Token}
use Rattle.ioa_tokens.specs.declared.lexeme.Lexeme.{Lexeme}
use Rattle.ioa_tokens.specs.declared.lexeme.Lexeme.TheVariants as lexeme
use Rattle.ioa_tokens.specs.declared.written.Gap.{Gap}
use Rattle.ioa_tokens.specs.declared.written.Gap.TheVariants as gap
use Rattle.ioa_tokens.specs.Lexeme.{is_space, lexeme_at}
use Rattle.ioa_tokens.specs.Tokens.{tokens, tokens_from, with_lexeme}
use Rattle.ioa_tokens.specs.Written.{Head, token_head, token_text, gap_text, written_text, AreTokens, AreApart}
use Rattle.ioa_tokens.proofs.Cuts.{next_lexeme}
use Rattle.ioa_tokens.proofs.Lexemes.{token_at}
use Rattle.ioa_tokens.proofs.Touching.{HasHead, token_headed, stops_behind}

-- white space is a gap
space_at : (c : ℕ) (rest : List ℕ) → is_space c ≡ true → lexeme_at (c ∷ rest) ≡ (lexeme.Gap, 1)
unfolding lexeme_at
space_at c rest space = rw space refl

-- white space goes by
spaces_pass : (blank rest : List ℕ) (offset : ℕ) → list_all is_space blank ≡ true → tokens_from 0 offset (blank ++ rest) ≡ tokens_from 0 (offset + length blank) rest
spaces_pass [] rest offset all = rw add-zero refl
spaces_pass (c ∷ blank) rest offset all =
    let parts = and_parts (is_space c) (list_all is_space blank) all in
    let same : offset + 1 + length blank ≡ offset + suc (length blank) = omega arith in
    ap (λ p. with_lexeme offset p.0 (tokens_from (p.1 - 1) (offset + 1) (blank ++ rest))) (space_at c (blank ++ rest) parts.0)
    ∙ spaces_pass blank rest (offset + 1) parts.1 ∙ ap (λ n. tokens_from 0 n rest) same

-- what has a head is not empty
headed_nonempty : (head : Head) (text rest : List ℕ) → HasHead head text → 0 < length (text ++ rest)
headed_nonempty head [] rest has = absurd has
headed_nonempty head (c ∷ text) rest has = omega arith

-- a token goes by
token_passes : (t : Token) (rest : List ℕ) (offset : ℕ) → HasHead (token_head t) (token_text t) → lexeme_at (token_text t ++ rest) ≡ (lexeme.Token t, length (token_text t)) → tokens_from 0 offset (token_text t ++ rest) ≡ with_lexeme offset (lexeme.Token t) (tokens_from 0 (offset + length (token_text t)) rest)
token_passes t rest offset has is =
    let text = token_text t in
    next_lexeme offset (text ++ rest) (headed_nonempty (token_head t) text rest has)
    ∙ ap (λ (p : Lexeme × ℕ). with_lexeme offset p.0 (tokens_from 0 (offset + p.1) (drop p.1 (text ++ rest)))) is
    ∙ ap (λ l. with_lexeme offset (lexeme.Token t) (tokens_from 0 (offset + length text) l)) (drop-append_seam text rest)

-- spaces are white space
spaces_blank : (count : ℕ) → list_all is_space (repeat count (codes " ")) ≡ true
spaces_blank zero = refl
spaces_blank (suc count) = spaces_blank count

-- a gap is white space
gap_blank : (g : Gap) → list_all is_space (gap_text g) ≡ true
gap_blank gap.Joined = refl
gap_blank gap.Spaced = refl
gap_blank (gap.NewLine indent) = spaces_blank indent

-- the tokens that are written from an offset on, each with its offset
abbrev pub located_from : ℕ → List (Gap × Token) → List LocatedToken
located_from offset [] = []
located_from offset (w ∷ ws) =
    let at = offset + length (gap_text w.0) in
    record { token = w.1; offset = at } ∷ located_from (at + length (token_text w.1)) ws

-- they are the tokens
located_tokens : (offset : ℕ) (ws : List (Gap × Token)) → map (λ (p : LocatedToken). p.token) (located_from offset ws) ≡ map (λ w. w.1) ws
located_tokens offset [] = refl
located_tokens offset (w ∷ ws) = ap (λ (ts : List Token). w.1 ∷ ts) (located_tokens (offset + length (gap_text w.0) + length (token_text w.1)) ws)

-- a written text, cut from an offset on
tokens_from_written : (ws : List (Gap × Token)) (offset : ℕ) (end : List ℕ) → AreTokens (map (λ w. w.1) ws) → AreApart ws → list_all is_space end ≡ true → tokens_from 0 offset (written_text ws ++ end) ≡ Ok (located_from offset ws)
tokens_from_written [] offset end good apart blank = ap (tokens_from 0 offset) (sym (append-nil end)) ∙ spaces_pass end [] offset blank
tokens_from_written (w ∷ ws) offset end good apart blank =
    let text = token_text w.1 in
    let rest = written_text ws ++ end in
    let at = offset + length (gap_text w.0) in
    ap (tokens_from 0 offset) (append_assoc (gap_text w.0) (text ++ written_text ws) end ∙ ap (λ l. gap_text w.0 ++ l) (append_assoc text (written_text ws) end))
    ∙ spaces_pass (gap_text w.0) (text ++ rest) offset (gap_blank w.0)
    ∙ token_passes w.1 rest at (token_headed w.1 good.0) (token_at w.1 rest good.0 (stops_behind w.1 ws end good.1 apart.0 blank))
    ∙ ap (with_lexeme at (lexeme.Token w.1)) (tokens_from_written ws (at + length text) end good.1 apart.1 blank)

-- tokens that are apart, each behind its gap, with white space at the end, are the tokens of their text
pub tokens_written : (ws : List (Gap × Token)) (end : List ℕ) → AreTokens (map (λ w. w.1) ws) → AreApart ws → list_all is_space end ≡ true → (located : List LocatedToken) × (tokens (written_text ws ++ end) ≡ Ok located) × (map (λ p. p.token) located ≡ map (λ w. w.1) ws)
unfolding tokens
tokens_written ws end good apart blank = (located_from 0 ws, tokens_from_written ws 0 end good apart blank, located_tokens 0 ws)

-- the same with a line feed at the end
pub tokens_written_line : (ws : List (Gap × Token)) → AreTokens (map (λ w. w.1) ws) → AreApart ws → (located : List LocatedToken) × (tokens (written_text ws ++ codes "\n") ≡ Ok located) × (map (λ p. p.token) located ≡ map (λ w. w.1) ws)
tokens_written_line ws good apart = tokens_written ws (codes "\n") good apart refl
