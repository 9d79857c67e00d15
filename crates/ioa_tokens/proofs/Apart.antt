-- Lists of written tokens in which none runs into the next, put together.
use Rattle.std.proofs.Common.{◌≡◌, ℕ, Bool, true, false, not, nat_eq, List, [], ◌∷◌, ◌++◌, codes, drop, arith, append_assoc, refl, sym, ap, ◌∙◌, true≢false}
use Rattle.std.specs.List.{list_all, list_any, starts_with}
use Rattle.std.specs.Prelude.{◌==◌, slice_index, if◌then◌else◌}
use Rattle.std.specs.Char.{is_ascii_alphabetic}
use Rattle.std.proofs.lemmas.Bool.{and_parts, cond_both}
use Rattle.std.proofs.lemmas.Bool.Decides.{nat_tests}
use Rattle.std.proofs.Math.Bool.{and-false}
use Rattle.ioa_tokens.specs.declared.mark.Mark.{Mark}
use Rattle.ioa_tokens.specs.declared.mark.Mark.TheVariants as mark
use Rattle.ioa_tokens.specs.declared.token.Token.{Token}
use Rattle.ioa_tokens.specs.declared.token.Token.TheVariants as token
use Rattle.ioa_tokens.specs.declared.written.Gap.{Gap}
use Rattle.ioa_tokens.specs.declared.written.Gap.TheVariants as gap
use Rattle.ioa_tokens.specs.Tables.{mark_text, left_out_text, signs, reserved}
use Rattle.ioa_tokens.specs.Written.{Head, letter, digit, sign, text_head, gap_text, token_head, token_ends, token_text, written_text, spelling_ends, sign_ends, begins_longer, may_touch, IsApartFrom}
use Rattle.ioa_tokens.proofs.Touching.{no_prefix, is_headed, mark_headed, left_out_headed}

-- one text behind another
pub written_appended : (xs ys : List (Gap × Token)) → written_text (xs ++ ys) ≡ written_text xs ++ written_text ys
written_appended [] ys = refl
written_appended (x ∷ xs) ys =
    let before = gap_text x.0 in
    let text = token_text x.1 in
    ap (λ l. before ++ (text ++ l)) (written_appended xs ys)
    ∙ sym (append_assoc before (text ++ written_text xs) (written_text ys) ∙ ap (λ l. before ++ l) (append_assoc text (written_text xs) (written_text ys)))

-- characters that no sign has but at its head
abbrev loose_characters : List ℕ
loose_characters = codes "()[]{}.,;:@"

-- whether a character is one of these
abbrev is_loose_character : ℕ → Bool
is_loose_character c = list_any (λ x. c == x) loose_characters

-- the marks that may follow any token with nothing between: brackets, `.`, `,`, `;`, `:`, `:=` and `@`
abbrev pub is_loose : Mark → Bool
is_loose m = is_loose_character (slice_index (mark_text m) 0)

-- a text that has no such character behind its head begins with no text that ends with one
no_tail : (p : ℕ → Bool) (row text : List ℕ) (x c : ℕ) → list_all (λ y. not (p y)) (drop 1 row) ≡ true → p c ≡ true → starts_with nat_eq row (x ∷ (text ++ c ∷ [])) ≡ false
no_tail p [] text x c all passes = refl
no_tail p (d ∷ row) text x c all passes = rw (no_prefix p row text c all passes) (and-false (nat_eq x d))

-- the same of each row of a table
no_tail_row : {A : Type 0} (p : ℕ → Bool) (rows : List (List ℕ × A)) (text : List ℕ) (x c : ℕ) → list_all (λ row. list_all (λ y. not (p y)) (drop 1 row.0)) rows ≡ true → p c ≡ true → list_any (λ row. starts_with nat_eq row.0 (x ∷ (text ++ c ∷ []))) rows ≡ false
no_tail_row p [] text x c all passes = refl
no_tail_row p (row ∷ rows) text x c all passes =
    let parts = and_parts (list_all (λ y. not (p y)) (drop 1 row.0)) (list_all (λ r. list_all (λ y. not (p y)) (drop 1 r.0)) rows) all in
    rw (no_tail p row.0 text x c parts.0 passes) (no_tail_row p rows text x c parts.1 passes)

-- no spelling is the front of a sign that goes on with such a character
loose_begins_none : (text : List ℕ) (c : ℕ) → is_headed text ≡ true → is_loose_character c ≡ true → begins_longer text c ≡ false
unfolding signs
loose_begins_none [] c headed loose = absurd (true≢false (sym headed))
loose_begins_none (x ∷ text) c headed loose = no_tail_row is_loose_character signs text x c refl loose

-- a spelling ends before it
loose_ends_spelling : (text : List ℕ) (c : ℕ) → is_headed text ≡ true → is_loose_character c ≡ true → spelling_ends text (sign c) ≡ true
loose_ends_spelling text c headed loose =
    cond_both (is_ascii_alphabetic (slice_index text 0)) true (if is_ascii_alphabetic (slice_index text 1) then true else not (begins_longer text c)) (λ b. b ≡ true)
    (λ _. refl)
    (λ _. cond_both (is_ascii_alphabetic (slice_index text 1)) true (not (begins_longer text c)) (λ b. b ≡ true)
    (λ _. refl) (λ _. ap not (loose_begins_none text c headed loose)))

-- so does each token
loose_ends : (t : Token) (c : ℕ) → is_loose_character c ≡ true → token_ends t (sign c) ≡ true
loose_ends (token.Word word) c loose = refl
loose_ends (token.Number number) c loose = refl
loose_ends (token.Mark m) c loose = loose_ends_spelling (mark_text m) c (mark_headed m) loose
loose_ends (token.LeftOut w) c loose = loose_ends_spelling (left_out_text w) c (left_out_headed w) loose

-- such a character is no letter
loose_is_sign : (c : ℕ) → is_loose_character c ≡ true → is_ascii_alphabetic c ≡ false
loose_is_sign c loose = grind (arith, nat_tests)

-- such a mark may follow any token with nothing between
pub loose_touches : (t : Token) (m : Mark) → is_loose m ≡ true → may_touch t (token.Mark m) ≡ true
loose_touches t m loose =
    let first = slice_index (mark_text m) 0 in
    let head : text_head (mark_text m) ≡ sign first = rw (loose_is_sign first loose) refl in
    ap (token_ends t) head ∙ loose_ends t first loose

-- the marks that any token may follow with nothing between
abbrev pub is_closed : Mark → Bool
is_closed mark.OpenRound = true
is_closed mark.CloseRound = true
is_closed mark.OpenSquare = true
is_closed mark.CloseSquare = true
is_closed mark.OpenBrace = true
is_closed mark.CloseBrace = true
is_closed mark.Dot = true
is_closed mark.Comma = true
is_closed mark.Semicolon = true
is_closed mark.AtSign = true
is_closed _ = false

-- a sign that begins no longer one ends before all
sign_closed : (text : List ℕ) (head : Head) → ((c : ℕ) → begins_longer text c ≡ false) → sign_ends text head ≡ true
sign_closed text letter none = refl
sign_closed text digit none = refl
sign_closed text (sign c) none = ap not (none c)

-- so do these marks
closed_ends : (m : Mark) (head : Head) → is_closed m ≡ true → token_ends (token.Mark m) head ≡ true
unfolding mark_text signs reserved
closed_ends mark.OpenRound head closed = sign_closed (codes "(") head (λ c. refl)
closed_ends mark.CloseRound head closed = sign_closed (codes ")") head (λ c. refl)
closed_ends mark.OpenSquare head closed = sign_closed (codes "[") head (λ c. refl)
closed_ends mark.CloseSquare head closed = sign_closed (codes "]") head (λ c. refl)
closed_ends mark.OpenBrace head closed = sign_closed (codes "{") head (λ c. refl)
closed_ends mark.CloseBrace head closed = sign_closed (codes "}") head (λ c. refl)
closed_ends mark.Dot head closed = sign_closed (codes ".") head (λ c. refl)
closed_ends mark.Comma head closed = sign_closed (codes ",") head (λ c. refl)
closed_ends mark.Semicolon head closed = sign_closed (codes ";") head (λ c. refl)
closed_ends mark.AtSign head closed = sign_closed (codes "@") head (λ c. refl)
closed_ends _ head closed = absurd (true≢false (sym closed))

-- all tokens are apart from them
pub apart_from_closed : (m : Mark) (ws : List (Gap × Token)) → is_closed m ≡ true → IsApartFrom (token.Mark m) ws
apart_from_closed m [] closed = tt
apart_from_closed m ((gap.Joined, u) ∷ ws) closed = closed_ends m (token_head u) closed
apart_from_closed m ((gap.Spaced, u) ∷ ws) closed = refl
apart_from_closed m ((gap.NewLine indent, u) ∷ ws) closed = refl
