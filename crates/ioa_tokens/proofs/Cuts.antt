-- The tokens of a text, found piece by piece.
use Rattle.std.proofs.Common.{◌≡◌, ℕ, zero, suc, ◌<◌, ◌≤◌, ◌+◌, ◌-◌, List, [], ◌∷◌, ◌++◌, length, drop, Result, Ok, Err, refl, sym, ap, arith, ◌∙◌, add-zero, append_assoc, length-drop, drop-drop}
use Rattle.ioa_tokens.specs.declared.token.LocatedToken.{LocatedToken}
use Rattle.ioa_tokens.specs.declared.token.Token.{Token}
use Rattle.ioa_tokens.specs.declared.fault.CutFault.{CutFault}
use Rattle.ioa_tokens.specs.declared.lexeme.Lexeme.{Lexeme}
use Rattle.ioa_tokens.specs.declared.lexeme.Lexeme.TheVariants as lexeme
use Rattle.ioa_tokens.specs.Lexeme.{lexeme_at}
use Rattle.ioa_tokens.specs.Tokens.{tokens_from, with_lexeme}
use Rattle.ioa_tokens.proofs.Sizes.{lexeme_sized}

-- tokens found already, before those of what is left
abbrev pub after_found : List LocatedToken → Result (List LocatedToken) CutFault → Result (List LocatedToken) CutFault
after_found found (Ok ts) = Ok (found ++ ts)
after_found found (Err e) = Err e

-- a token found joins those found before it
pushed : (found : List LocatedToken) (offset : ℕ) (t : Token) (after : Result (List LocatedToken) CutFault) → after_found (found ++ record { token = t; offset = offset } ∷ []) after ≡ after_found found (with_lexeme offset (lexeme.Token t) after)
pushed found offset t (Ok ts) = ap Ok (append_assoc found (record { token = t; offset = offset } ∷ []) ts)
pushed found offset t (Err e) = refl

-- the bytes that are left of a piece go by
tokens_from_left : (left offset : ℕ) (text : List ℕ) → tokens_from left offset text ≡ tokens_from 0 (offset + left) (drop left text)
tokens_from_left zero offset [] = refl
tokens_from_left (suc left) offset [] = refl
tokens_from_left zero offset (c ∷ text) = rw add-zero refl
tokens_from_left (suc left) offset (c ∷ text) =
    let same : offset + 1 + left ≡ offset + suc left = omega arith in
    tokens_from_left left (offset + 1) text ∙ ap (λ p. tokens_from 0 p (drop left text)) same

-- a piece of some bytes goes by
rest_of_lexeme : (size offset c : ℕ) (text : List ℕ) → 0 < size → tokens_from (size - 1) (offset + 1) text ≡ tokens_from 0 (offset + size) (drop size (c ∷ text))
rest_of_lexeme zero offset c text some = absurd (omega arith)
rest_of_lexeme (suc left) offset c text some =
    let less : suc left - 1 ≡ left = omega arith in
    let same : offset + 1 + left ≡ offset + suc left = omega arith in
    ap (λ n. tokens_from n (offset + 1) text) less ∙ tokens_from_left left (offset + 1) text ∙ ap (λ p. tokens_from 0 p (drop left text)) same

-- a piece, and then the tokens of what comes after it
pub next_lexeme : (offset : ℕ) (text : List ℕ) → 0 < length text → tokens_from 0 offset text ≡ with_lexeme offset (lexeme_at text).0 (tokens_from 0 (offset + (lexeme_at text).1) (drop (lexeme_at text).1 text))
next_lexeme offset [] nonempty = absurd (omega arith)
next_lexeme offset (c ∷ text) nonempty = ap (with_lexeme offset (lexeme_at (c ∷ text)).0) (rest_of_lexeme (lexeme_at (c ∷ text)).1 offset c text (lexeme_sized (c ∷ text) nonempty).0)

-- at an offset, with the tokens found before it
module _ (found : List LocatedToken) (offset : ℕ) (text : List ℕ) (meant : Result (List LocatedToken) CutFault) (within : offset < length text) (before : after_found found (tokens_from 0 offset (drop offset text)) ≡ meant) (p : Lexeme × ℕ) (is : p ≡ lexeme_at (drop offset text)) where
  -- the piece there is no longer than what is left, and no shorter than a byte
  pub lexeme_within : (0 < p.1) × (offset + p.1 ≤ length text)
  lexeme_within =
      let left : length (drop offset text) ≡ length text - offset = length-drop offset text in
      let sized = lexeme_sized (drop offset text) (omega arith) in
      let size : p.1 ≡ (lexeme_at (drop offset text)).1 = ap (λ q. q.1) is in
      (omega arith, omega arith)

  -- what is meant is the piece, and then the tokens of what comes after it
  after_lexeme : after_found found (with_lexeme offset p.0 (tokens_from 0 (offset + p.1) (drop (offset + p.1) text))) ≡ meant
  after_lexeme =
      let rest = drop offset text in
      let left : length rest ≡ length text - offset = length-drop offset text in
      let passed : drop (offset + p.1) text ≡ drop p.1 rest = sym (drop-drop p.1 offset text) in
      let same : with_lexeme offset p.0 (tokens_from 0 (offset + p.1) (drop (offset + p.1) text)) ≡ tokens_from 0 offset rest =
      ap (λ l. with_lexeme offset p.0 (tokens_from 0 (offset + p.1) l)) passed
      ∙ ap (λ q. with_lexeme offset q.0 (tokens_from 0 (offset + q.1) (drop q.1 rest))) is
      ∙ sym (next_lexeme offset rest (omega arith)) in
      ap (after_found found) same ∙ before

  -- white space or a comment leaves the tokens found as they are
  pub after_gap : p.0 ≡ lexeme.Gap → after_found found (tokens_from 0 (offset + p.1) (drop (offset + p.1) text)) ≡ meant
  after_gap gap = ap (λ q. after_found found (with_lexeme offset q (tokens_from 0 (offset + p.1) (drop (offset + p.1) text)))) (sym gap) ∙ after_lexeme

  -- a token joins them
  pub after_token : (t : Token) → p.0 ≡ lexeme.Token t → after_found (found ++ record { token = t; offset = offset } ∷ []) (tokens_from 0 (offset + p.1) (drop (offset + p.1) text)) ≡ meant
  after_token t token = pushed found offset t (tokens_from 0 (offset + p.1) (drop (offset + p.1) text)) ∙ ap (λ q. after_found found (with_lexeme offset q (tokens_from 0 (offset + p.1) (drop (offset + p.1) text)))) (sym token) ∙ after_lexeme
