-- The tokens of a line, found piece by piece.
use Rattle.std.proofs.Common.{◌≡◌, ℕ, zero, suc, ◌<◌, ◌≤◌, ◌+◌, ◌-◌, ◌==◌, Bool, List, [], ◌∷◌, ◌++◌, length, drop, Option, Some, Result, Ok, Err, refl, sym, ap, arith, ⊎_elim, ◌∙◌, add-zero, append_assoc, length-drop, drop-drop}
use Rattle.std.specs.Prelude.{if◌then◌else◌, slice_index}
use Rattle.std.proofs.lemmas.Bool.{cases_Bool}
use Rattle.std.proofs.lemmas.Bool.Decides.{nat_tests}
use Rattle.ioa_tokens.specs.declared.mark.Mark.{Mark}
use Rattle.ioa_tokens.specs.declared.mark.Mark.TheVariants as mark
use Rattle.ioa_tokens.specs.declared.token.LocatedToken.{LocatedToken}
use Rattle.ioa_tokens.specs.declared.token.Token.{Token}
use Rattle.ioa_tokens.specs.declared.token.Token.TheVariants as token
use Rattle.ioa_tokens.specs.declared.fault.CutFault.{CutFault}
use Rattle.ioa_tokens.specs.declared.lexeme.Lexeme.{Lexeme}
use Rattle.ioa_tokens.specs.declared.lexeme.Lexeme.TheVariants as lexeme
use Rattle.ioa_tokens.specs.Tables.{signs}
use Rattle.ioa_tokens.specs.Lexeme.{lexeme_at}
use Rattle.ioa_tokens.specs.LineTokens.{lone_sign, line_lexeme_at, minus_after, is_minus, line_tokens_from}
use Rattle.ioa_tokens.specs.Tokens.{with_lexeme}
use Rattle.ioa_tokens.proofs.Cuts.{after_found}
use Rattle.ioa_tokens.proofs.Sizes.{lexeme_sized}

-- the piece at the head is this sign, which has one byte
IsSignAt : List ℕ → Mark → ℕ → Type 0
IsSignAt text m c = lexeme_at (c ∷ text) ≡ (lexeme.Token (token.Mark m), 1)

-- one test of the byte: it is this one, with its sign, or what the other tests say
one_sign : (text : List ℕ) (m k : Mark) (b c : ℕ) (rest : Option Mark) → (if c == b then Some m else rest) ≡ Some k → lexeme_at (b ∷ text) ≡ (lexeme.Token (token.Mark m), 1) → (rest ≡ Some k → lexeme_at (c ∷ text) ≡ (lexeme.Token (token.Mark k), 1)) → lexeme_at (c ∷ text) ≡ (lexeme.Token (token.Mark k), 1)
one_sign text m k b c rest is at others =
    ⊎_elim
    (λ yes. let same : c ≡ b = grind (arith, nat_tests) in let found : Some m ≡ Some k = rw yes at is in let mark : m ≡ k = cc in rw (same, ← mark) at)
    (λ no. others (rw no at is))
    (cases_Bool (c == b))

-- a sign that is a byte alone
lone_sign_of : (c : ℕ) (text : List ℕ) (k : Mark) → lone_sign c ≡ Some k → lexeme_at (c ∷ text) ≡ (lexeme.Token (token.Mark k), 1)
unfolding lexeme_at signs
lone_sign_of c text k is =
    one_sign text mark.Comma k 44 c _ is refl
    (λ is. one_sign text mark.OpenRound k 40 c _ is refl
    (λ is. one_sign text mark.CloseRound k 41 c _ is refl
    (λ is. one_sign text mark.AtSign k 64 c _ is refl
    (λ is. one_sign text mark.OpenSquare k 91 c _ is refl
    (λ is. one_sign text mark.CloseSquare k 93 c _ is refl
    (λ is. one_sign text mark.OpenBrace k 123 c _ is refl
    (λ is. one_sign text mark.CloseBrace k 125 c _ is refl
    (λ is. absurd (cc)))))))))

-- the same of the text whose first byte it is
pub lone_sign_at : (text : List ℕ) (m : Mark) → 0 < length text → lone_sign (slice_index text 0) ≡ Some m → lexeme_at text ≡ (lexeme.Token (token.Mark m), 1)
lone_sign_at [] m some is = absurd (omega arith)
lone_sign_at (c ∷ text) m some is = lone_sign_of c text m is

-- a piece has at least one byte, and no more than the text
pub line_lexeme_sized : (minus : Bool) (text : List ℕ) → 0 < length text → (0 < (line_lexeme_at minus text).1) × ((line_lexeme_at minus text).1 ≤ length text)
unfolding line_lexeme_at
line_lexeme_sized minus text nonempty = lexeme_sized text nonempty

-- a token found joins those found before it
pushed : (found : List LocatedToken) (offset : ℕ) (t : Token) (after : Result (List LocatedToken) CutFault) → after_found (found ++ record { token = t; offset = offset } ∷ []) after ≡ after_found found (with_lexeme offset (lexeme.Token t) after)
pushed found offset t (Ok ts) = ap Ok (append_assoc found (record { token = t; offset = offset } ∷ []) ts)
pushed found offset t (Err e) = refl

-- the bytes that are left of a piece go by
left_pass : (minus : Bool) (left offset : ℕ) (text : List ℕ) → line_tokens_from minus left offset text ≡ line_tokens_from minus 0 (offset + left) (drop left text)
left_pass minus zero offset [] = refl
left_pass minus (suc left) offset [] = refl
left_pass minus zero offset (c ∷ text) = rw add-zero refl
left_pass minus (suc left) offset (c ∷ text) =
    let same : offset + 1 + left ≡ offset + suc left = omega arith in
    left_pass minus left (offset + 1) text ∙ ap (λ p. line_tokens_from minus 0 p (drop left text)) same

-- a piece of some bytes goes by
piece_passes : (minus : Bool) (size offset c : ℕ) (text : List ℕ) → 0 < size → line_tokens_from minus (size - 1) (offset + 1) text ≡ line_tokens_from minus 0 (offset + size) (drop size (c ∷ text))
piece_passes minus zero offset c text some = absurd (omega arith)
piece_passes minus (suc left) offset c text some =
    let less : suc left - 1 ≡ left = omega arith in
    let same : offset + 1 + left ≡ offset + suc left = omega arith in
    ap (λ n. line_tokens_from minus n (offset + 1) text) less ∙ left_pass minus left (offset + 1) text ∙ ap (λ p. line_tokens_from minus 0 p (drop left text)) same

-- the tokens of a text that begins with a piece
abbrev pub after_piece : Bool → ℕ → List ℕ → Lexeme × ℕ → Result (List LocatedToken) CutFault
after_piece minus offset text p = with_lexeme offset p.0 (line_tokens_from (minus_after minus p.0) 0 (offset + p.1) (drop p.1 text))

-- a piece, and then the tokens of what comes after it
pub next_piece : (minus : Bool) (offset : ℕ) (text : List ℕ) → 0 < length text → line_tokens_from minus 0 offset text ≡ after_piece minus offset text (line_lexeme_at minus text)
next_piece minus offset [] nonempty = absurd (omega arith)
next_piece minus offset (c ∷ text) nonempty =
    let p = line_lexeme_at minus (c ∷ text) in
    ap (with_lexeme offset p.0) (piece_passes (minus_after minus p.0) p.1 offset c text (line_lexeme_sized minus (c ∷ text) nonempty).0)

-- at an offset, with the tokens found before it
module _ (found : List LocatedToken) (minus : Bool) (offset : ℕ) (text : List ℕ) (meant : Result (List LocatedToken) CutFault) (within : offset < length text) (before : after_found found (line_tokens_from minus 0 offset (drop offset text)) ≡ meant) (p : Lexeme × ℕ) (is : p ≡ line_lexeme_at minus (drop offset text)) where
  -- the piece there is no longer than what is left, and no shorter than a byte
  pub piece_within : (0 < p.1) × (offset + p.1 ≤ length text)
  piece_within =
      let left : length (drop offset text) ≡ length text - offset = length-drop offset text in
      let sized = line_lexeme_sized minus (drop offset text) (omega arith) in
      let size : p.1 ≡ (line_lexeme_at minus (drop offset text)).1 = ap (λ q. q.1) is in
      (omega arith, omega arith)

  -- what is meant is the piece, and then the tokens of what comes after it
  after_next : after_found found (with_lexeme offset p.0 (line_tokens_from (minus_after minus p.0) 0 (offset + p.1) (drop (offset + p.1) text))) ≡ meant
  after_next =
      let rest = drop offset text in
      let left : length rest ≡ length text - offset = length-drop offset text in
      let passed : drop (offset + p.1) text ≡ drop p.1 rest = sym (drop-drop p.1 offset text) in
      let same : with_lexeme offset p.0 (line_tokens_from (minus_after minus p.0) 0 (offset + p.1) (drop (offset + p.1) text)) ≡ line_tokens_from minus 0 offset rest =
      ap (λ l. with_lexeme offset p.0 (line_tokens_from (minus_after minus p.0) 0 (offset + p.1) l)) passed
      ∙ ap (after_piece minus offset rest) is
      ∙ sym (next_piece minus offset rest (omega arith)) in
      ap (after_found found) same ∙ before

  -- white space or a comment leaves the tokens found as they are
  pub after_line_gap : p.0 ≡ lexeme.Gap → after_found found (line_tokens_from minus 0 (offset + p.1) (drop (offset + p.1) text)) ≡ meant
  after_line_gap gap = ap (λ q. after_found found (with_lexeme offset q (line_tokens_from (minus_after minus q) 0 (offset + p.1) (drop (offset + p.1) text)))) (sym gap) ∙ after_next

  -- a token joins them
  pub after_line_token : (t : Token) → p.0 ≡ lexeme.Token t → after_found (found ++ record { token = t; offset = offset } ∷ []) (line_tokens_from (is_minus t) 0 (offset + p.1) (drop (offset + p.1) text)) ≡ meant
  after_line_token t token = pushed found offset t (line_tokens_from (is_minus t) 0 (offset + p.1) (drop (offset + p.1) text)) ∙ ap (λ q. after_found found (with_lexeme offset q (line_tokens_from (minus_after minus q) 0 (offset + p.1) (drop (offset + p.1) text)))) (sym token) ∙ after_next
