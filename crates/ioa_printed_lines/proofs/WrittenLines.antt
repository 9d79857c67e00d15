-- The tokens of a written line are the tokens that were written. A number token that is negative is written by its
-- amount, and stands behind a `-`.
use Rattle.std.proofs.Common.{◌≡◌, ℕ, suc, ◌+◌, ◌<◌, ◌≤◌, Bool, true, false, Some, List, [], ◌∷◌, ◌++◌, length, Ok, refl, sym, ap, subst, arith, ◌∙◌, append_assoc, append-nil, add-zero, pos, negsuc, decimal, true≢false, length-append}
use Rattle.std.specs.List.{list_all, take_while}
use Rattle.std.specs.Prelude.{map}
use Rattle.std.specs.Char.{is_ascii_digit}
use Rattle.std.specs.Str.Parse.{digits_value}
use Rattle.std.proofs.lemmas.Bool.{and_parts}
use Rattle.std.proofs.lemmas.Bool.Decides.{nat_tests}
use Rattle.std.proofs.lemmas.Fmt.{decimal_is_IsNumeral}
use Rattle.std.proofs.Math.Seq.{drop-append_seam}
use Rattle.ioa_tokens.specs.declared.mark.Mark.TheVariants as mark
use Rattle.ioa_tokens.specs.declared.token.LocatedToken.{LocatedToken}
use Rattle.ioa_tokens.specs.declared.token.Token.{Token}
use Rattle.ioa_tokens.specs.declared.token.Token.TheVariants as token
use Rattle.ioa_tokens.specs.declared.written.Gap.{Gap}
use Rattle.ioa_tokens.specs.declared.written.Gap.TheVariants as gap
use Rattle.ioa_tokens.specs.Lexeme.{is_space, lexeme_at, greatest_number, token_or_stray, number_lexeme}
use Rattle.ioa_tokens.specs.LineTokens.{line_tokens, line_tokens_from, line_lexeme_at, is_minus, least_number}
use Rattle.ioa_tokens.specs.Tables.{mark_text, signs, reserved}
use Rattle.ioa_tokens.specs.Tokens.{with_lexeme}
use Rattle.ioa_tokens.specs.Written.{Head, digit, may_touch, token_head, token_text, gap_text, IsToken, IsApartFrom}
use Rattle.ioa_tokens.proofs.Ends.{Stops, takes, prefix_whole}
use Rattle.ioa_tokens.proofs.Lexemes.{token_at, number_at, digits_by_code}
use Rattle.ioa_tokens.proofs.LineCuts.{next_piece, after_piece}
use Rattle.ioa_tokens.proofs.Touching.{HasHead, token_headed, stops_behind}

-- how a token of a line is written: a number by its amount
abbrev pub amount_text : Token → List ℕ
amount_text (token.Word word) = word
amount_text (token.Number (pos n)) = decimal n
amount_text (token.Number (negsuc n)) = decimal (suc n)
amount_text (token.Mark m) = mark_text m
amount_text (token.LeftOut word) = token_text (token.LeftOut word)

-- the text of tokens, each behind its gap
abbrev pub line_text : List (Gap × Token) → List ℕ
line_text [] = []
line_text (first ∷ more) = gap_text first.0 ++ (amount_text first.1 ++ line_text more)

-- the tokens that a line can have: the least number alone is negative, and comes behind a `-`
abbrev pub IsLineToken : Bool → Token → Type 0
IsLineToken minus (token.Word word) = IsToken (token.Word word)
IsLineToken minus (token.Number (pos n)) = n ≤ greatest_number
IsLineToken minus (token.Number (negsuc n)) = (minus ≡ true) × (n ≡ greatest_number)
IsLineToken minus (token.Mark m) = Unit {0}
IsLineToken minus (token.LeftOut word) = Unit {0}

-- a gap within a line
abbrev pub IsInLine : Gap → Type 0
IsInLine gap.Joined = Unit {0}
IsInLine gap.Spaced = Unit {0}
IsInLine (gap.NewLine indent) = ⊥

-- all of these are such tokens in one line, and none runs into the one behind it
abbrev pub AreLineTokens : Bool → List (Gap × Token) → Type 0
AreLineTokens minus [] = Unit {0}
AreLineTokens minus (w ∷ ws) = IsInLine w.0 × IsLineToken minus w.1 × IsApartFrom w.1 ws × AreLineTokens (is_minus w.1) ws

-- the digits of the amount of the least number
least_digits : List ℕ
least_digits = decimal (suc greatest_number)

-- a token is one of a text, or the least number
by_kind : (G : Token → Type 0) (minus : Bool) (t : Token) → IsLineToken minus t → (IsToken t → amount_text t ≡ token_text t → G t) → (minus ≡ true → G least_number) → G t
by_kind G minus (token.Word word) good one least = one good refl
by_kind G minus (token.Number (pos n)) good one least = one good refl
by_kind G minus (token.Number (negsuc n)) good one least = subst (λ k. G (token.Number (negsuc k))) (sym good.1) (least good.0)
by_kind G minus (token.Mark m) good one least = one good refl
by_kind G minus (token.LeftOut word) good one least = one good refl

-- they are digits, at least one, and have the amount as their value
least_numeral : (0 < length least_digits) × (list_all is_ascii_digit least_digits ≡ true) × (digits_value 10 least_digits ≡ suc greatest_number)
unfolding least_digits
least_numeral = let numeral = decimal_is_IsNumeral (suc greatest_number) (omega arith) in (numeral.0.0, digits_by_code least_digits numeral.0.1, numeral.1)

-- a token of a text at the head
plain_at : (minus : Bool) (t : Token) (rest : List ℕ) → IsToken t → Stops (takes t) rest → line_lexeme_at minus (token_text t ++ rest) ≡ (token_or_stray (Some t), length (token_text t))
unfolding line_lexeme_at
plain_at minus t rest good ends = rw (token_at t rest good ends) refl

-- the digits of the amount of the least number at the head, behind a `-`
least_at : (rest : List ℕ) → Stops is_ascii_digit rest → line_lexeme_at true (least_digits ++ rest) ≡ (token_or_stray (Some least_number), length least_digits)
unfolding line_lexeme_at
least_at rest stops =
    let at : lexeme_at (least_digits ++ rest) ≡ number_lexeme least_digits = number_at least_digits rest least_numeral.0 least_numeral.1 stops in
    let front : take_while is_ascii_digit (least_digits ++ rest) ≡ least_digits = prefix_whole is_ascii_digit least_digits rest least_numeral.1 stops in
    rw (at, least_numeral.2, front, least_numeral.2) refl

-- a token of a line at the head
pub line_token_at : (minus : Bool) (t : Token) (rest : List ℕ) → IsLineToken minus t → Stops (takes t) rest → line_lexeme_at minus (amount_text t ++ rest) ≡ (token_or_stray (Some t), length (amount_text t))
unfolding least_digits
line_token_at minus t rest good ends =
    by_kind (λ u. Stops (takes u) rest → line_lexeme_at minus (amount_text u ++ rest) ≡ (token_or_stray (Some u), length (amount_text u))) minus t good
    (λ plain same stops. rw same (plain_at minus t rest plain stops))
    (λ behind stops. rw behind (least_at rest stops)) ends

-- white space goes by
space_passes : (minus : Bool) (c : ℕ) (rest : List ℕ) (offset : ℕ) → is_space c ≡ true → line_tokens_from minus 0 offset (c ∷ rest) ≡ line_tokens_from minus 0 (offset + 1) rest
unfolding line_lexeme_at lexeme_at
space_passes minus c rest offset space = rw space refl

-- all of it
spaces_pass : (minus : Bool) (blank rest : List ℕ) (offset : ℕ) → list_all is_space blank ≡ true → line_tokens_from minus 0 offset (blank ++ rest) ≡ line_tokens_from minus 0 (offset + length blank) rest
spaces_pass minus [] rest offset all = rw add-zero refl
spaces_pass minus (c ∷ blank) rest offset all =
    let parts = and_parts (is_space c) (list_all is_space blank) all in
    let same : offset + 1 + length blank ≡ offset + suc (length blank) = omega arith in
    space_passes minus c (blank ++ rest) offset parts.0
    ∙ spaces_pass minus blank rest (offset + 1) parts.1 ∙ ap (λ n. line_tokens_from minus 0 n rest) same

-- digits begin with a digit
digits_headed : (ds : List ℕ) → 0 < length ds → list_all is_ascii_digit ds ≡ true → HasHead digit ds
digits_headed [] some all = absurd (omega arith)
digits_headed (d ∷ ds) some all = (and_parts (is_ascii_digit d) (list_all is_ascii_digit ds) all).0

-- each token begins with its head
amount_headed : (minus : Bool) (t : Token) → IsLineToken minus t → HasHead (token_head t) (amount_text t)
unfolding least_digits
amount_headed minus t good =
    by_kind (λ u. HasHead (token_head u) (amount_text u)) minus t good
    (λ plain same. rw same (token_headed t plain))
    (λ behind. digits_headed least_digits least_numeral.0 least_numeral.1)

-- a token that is the sign `-`
minus_alone : (t : Token) → is_minus t ≡ true → t ≡ token.Mark mark.Minus
minus_alone (token.Word word) is = absurd (true≢false (sym is))
minus_alone (token.Number number) is = absurd (true≢false (sym is))
minus_alone (token.LeftOut word) is = absurd (true≢false (sym is))
minus_alone (token.Mark mark.Minus) is = refl
minus_alone (token.Mark _) is = absurd (true≢false (sym is))

-- what comes next does not matter to the end of a token, but for its first character
stops_so : (p : ℕ → Bool) (text more rest : List ℕ) → 0 < length text → Stops p (text ++ more) → Stops p (text ++ rest)
stops_so p [] more rest some stops = absurd (omega arith)
stops_so p (c ∷ text) more rest some stops = stops

-- what has a head is not empty
headed_nonempty : (head : Head) (text : List ℕ) → HasHead head text → 0 < length text
headed_nonempty head [] has = absurd has
headed_nonempty head (c ∷ text) has = omega arith

-- a `-` ends before a digit
minus_stops : (c : ℕ) → is_ascii_digit c ≡ true → takes (token.Mark mark.Minus) c ≡ false
unfolding mark_text signs reserved
minus_stops c is = grind (arith, nat_tests)

-- and so before digits
minus_stops_before : (ds rest : List ℕ) → 0 < length ds → list_all is_ascii_digit ds ≡ true → Stops (takes (token.Mark mark.Minus)) (ds ++ rest)
minus_stops_before [] rest some all = absurd (omega arith)
minus_stops_before (d ∷ ds) rest some all = minus_stops d (and_parts (is_ascii_digit d) (list_all is_ascii_digit ds) all).0

-- a token ends before one that is joined to it
stops_joined : (t u : Token) (rest : List ℕ) → IsLineToken (is_minus t) u → may_touch t u ≡ true → Stops (takes t) (amount_text u ++ rest)
unfolding least_digits
stops_joined t u rest good touch =
    by_kind (λ v. may_touch t v ≡ true → Stops (takes t) (amount_text v ++ rest)) (is_minus t) u good
    (λ plain same touches.
    let one : Stops (takes t) ((token_text u ++ []) ++ []) = stops_behind t ((gap.Joined, u) ∷ []) [] (plain, tt) touches refl in
    let two : Stops (takes t) (token_text u ++ []) = rw (append-nil (token_text u ++ [])) at one in
    rw same (stops_so (takes t) (token_text u) [] rest (headed_nonempty (token_head u) (token_text u) (token_headed u plain)) two))
    (λ behind touches. rw (minus_alone t behind) (minus_stops_before least_digits rest least_numeral.0 least_numeral.1)) touch

-- what is written behind a token, apart from it, ends it
stops_behind_line : (t : Token) (ws : List (Gap × Token)) (end : List ℕ) → AreLineTokens (is_minus t) ws → IsApartFrom t ws → list_all is_space end ≡ true → Stops (takes t) (line_text ws ++ end)
stops_behind_line t [] end good apart blank = stops_behind t [] end tt tt blank
stops_behind_line t ((gap.Joined, u) ∷ ws) end good apart blank =
    subst (Stops (takes t)) (sym (append_assoc (amount_text u) (line_text ws) end)) (stops_joined t u (line_text ws ++ end) good.1 apart)
stops_behind_line t ((gap.Spaced, u) ∷ ws) end good apart blank = stops_behind t ((gap.Spaced, token.Mark mark.Comma) ∷ []) [] (tt, tt) refl refl
stops_behind_line t ((gap.NewLine indent, u) ∷ ws) end good apart blank = absurd good.0

-- a token goes by
token_passes : (minus : Bool) (t : Token) (rest : List ℕ) (offset : ℕ) → IsLineToken minus t → Stops (takes t) rest → line_tokens_from minus 0 offset (amount_text t ++ rest) ≡ with_lexeme offset (token_or_stray (Some t)) (line_tokens_from (is_minus t) 0 (offset + length (amount_text t)) rest)
token_passes minus t rest offset good ends =
    let text = amount_text t in
    let some : 0 < length (text ++ rest) = rw length-append (omega (arith, headed_nonempty (token_head t) text (amount_headed minus t good))) in
    next_piece minus offset (text ++ rest) some
    ∙ ap (after_piece minus offset (text ++ rest)) (line_token_at minus t rest good ends)
    ∙ ap (λ l. with_lexeme offset (token_or_stray (Some t)) (line_tokens_from (is_minus t) 0 (offset + length text) l)) (drop-append_seam text rest)

-- a gap is white space
gap_blank : (g : Gap) → IsInLine g → list_all is_space (gap_text g) ≡ true
gap_blank gap.Joined within = refl
gap_blank gap.Spaced within = refl
gap_blank (gap.NewLine indent) within = absurd within

-- the tokens that are written from an offset on, each with its offset
located_from : ℕ → List (Gap × Token) → List LocatedToken
located_from offset [] = []
located_from offset (w ∷ ws) =
    let at = offset + length (gap_text w.0) in
    record { token = w.1; offset = at } ∷ located_from (at + length (amount_text w.1)) ws

-- they are the tokens
located_tokens : (offset : ℕ) (ws : List (Gap × Token)) → map (λ (p : LocatedToken). p.token) (located_from offset ws) ≡ map (λ w. w.1) ws
unfolding located_from
located_tokens offset [] = refl
located_tokens offset (w ∷ ws) = ap (λ (ts : List Token). w.1 ∷ ts) (located_tokens (offset + length (gap_text w.0) + length (amount_text w.1)) ws)

-- a written line, cut from an offset on
cut_from : (minus : Bool) (ws : List (Gap × Token)) (offset : ℕ) (end : List ℕ) → AreLineTokens minus ws → list_all is_space end ≡ true → line_tokens_from minus 0 offset (line_text ws ++ end) ≡ Ok (located_from offset ws)
unfolding located_from
cut_from minus [] offset end good blank = ap (line_tokens_from minus 0 offset) (sym (append-nil end)) ∙ spaces_pass minus end [] offset blank
cut_from minus (w ∷ ws) offset end good blank =
    let text = amount_text w.1 in
    let rest = line_text ws ++ end in
    let at = offset + length (gap_text w.0) in
    ap (line_tokens_from minus 0 offset) (append_assoc (gap_text w.0) (text ++ line_text ws) end ∙ ap (λ l. gap_text w.0 ++ l) (append_assoc text (line_text ws) end))
    ∙ spaces_pass minus (gap_text w.0) (text ++ rest) offset (gap_blank w.0 good.0)
    ∙ token_passes minus w.1 rest at good.1 (stops_behind_line w.1 ws end good.3 good.2 blank)
    ∙ ap (with_lexeme at (token_or_stray (Some w.1))) (cut_from (is_minus w.1) ws (at + length text) end good.3 blank)

-- tokens that are apart, each behind its gap, with white space at the end, are the tokens of their line
pub line_cut : (ws : List (Gap × Token)) (end : List ℕ) → AreLineTokens false ws → list_all is_space end ≡ true → (located : List LocatedToken) × (line_tokens (line_text ws ++ end) ≡ Ok located) × (map (λ p. p.token) located ≡ map (λ w. w.1) ws)
unfolding line_tokens
line_cut ws end good blank = (located_from 0 ws, cut_from false ws 0 end good blank, located_tokens 0 ws)
