-- How far the token at the head of a text goes.
use Rattle.std.proofs.Common.{◌≡◌, ℕ, Bool, true, false, nat_eq, List, [], ◌∷◌, ◌++◌, refl, ap, arith, append-nil, one-add, ⊎_elim}
use Rattle.std.specs.List.{list_all, list_any, starts_with, take_while}
use Rattle.std.specs.Map.{lookup_entry}
use Rattle.std.specs.Prelude.{◌&&◌, slice_index, if◌then◌else◌}
use Rattle.std.specs.Char.{is_ascii_alphabetic, is_ascii_digit}
use Rattle.std.proofs.lemmas.Bool.{and_parts, or_parts, cases_Bool}
use Rattle.std.proofs.lemmas.Bool.Decides.{nat_tests}
use Rattle.ioa_tokens.specs.declared.token.Token.{Token}
use Rattle.ioa_tokens.specs.declared.token.Token.TheVariants as token
use Rattle.ioa_tokens.specs.Tables.{mark_text, left_out_text, signs, sign_at_head}
use Rattle.ioa_tokens.specs.Lexeme.{is_in_word}
use Rattle.ioa_tokens.specs.Written.{begins_longer}

-- a text does not go on with a character of some kind
abbrev pub Stops : (ℕ → Bool) → List ℕ → Type 0
Stops goes_on [] = Unit {0}
Stops goes_on (c ∷ rest) = goes_on c ≡ false

-- a front of which all characters pass, before a text that does not go on so
pub prefix_whole : (p : ℕ → Bool) (prefix rest : List ℕ) → list_all p prefix ≡ true → Stops p rest → take_while p (prefix ++ rest) ≡ prefix
prefix_whole p [] [] all stops = refl
prefix_whole p [] (c ∷ rest) all stops = rw stops refl
prefix_whole p (x ∷ prefix) rest all stops =
    let parts = and_parts (p x) (list_all p prefix) all in
    rw (parts.0, one-add) (ap (λ l. x ∷ l) (prefix_whole p prefix rest parts.1 stops))

-- a test of two characters, and one of what is behind them
same_behind : (d x : ℕ) (before after behind : Bool) → (nat_eq x d && behind) ≡ false → (behind ≡ false → before ≡ after) → (nat_eq d x && before) ≡ (nat_eq d x && after)
same_behind d x before after behind other same =
    ⊎_elim
    (λ yes. let turned : nat_eq x d ≡ true = grind (arith, nat_tests) in rw (same (rw turned at other)) refl)
    (λ no. rw no refl)
    (cases_Bool (nat_eq d x))

-- a text begins with a longer one only if it begins with the next character too
more_of_prefix : (sign text rest : List ℕ) (c : ℕ) → starts_with nat_eq sign (text ++ c ∷ []) ≡ false → starts_with nat_eq (text ++ c ∷ rest) sign ≡ starts_with nat_eq text sign
more_of_prefix [] [] rest c other = refl
more_of_prefix [] (x ∷ text) rest c other = refl
more_of_prefix (d ∷ sign) [] rest c other = let apart : nat_eq d c ≡ false = grind (arith, nat_tests) in rw apart refl
more_of_prefix (d ∷ sign) (x ∷ text) rest c other =
    same_behind d x (starts_with nat_eq (text ++ c ∷ rest) sign) (starts_with nat_eq text sign) (starts_with nat_eq sign (text ++ c ∷ [])) other
    (more_of_prefix sign text rest c)

-- what is found first in a table stays so if no row begins with the text and the next character
found_stays : {A : Type 0} (rows : List (List ℕ × A)) (text rest : List ℕ) (c : ℕ) → list_any (λ row. starts_with nat_eq row.0 (text ++ c ∷ [])) rows ≡ false → lookup_entry (starts_with nat_eq (text ++ c ∷ rest)) rows ≡ lookup_entry (starts_with nat_eq text) rows
found_stays [] text rest c none = refl
found_stays (row ∷ rows) text rest c none =
    let parts = or_parts (starts_with nat_eq row.0 (text ++ c ∷ [])) (list_any (λ r. starts_with nat_eq r.0 (text ++ c ∷ [])) rows) none in
    rw (more_of_prefix row.0 text rest c parts.0, found_stays rows text rest c parts.1) refl

-- a sign stays the longest one if no longer sign goes on
pub sign_stays : (text rest : List ℕ) → Stops (begins_longer text) rest → sign_at_head (text ++ rest) ≡ sign_at_head text
sign_stays text [] ends = ap sign_at_head (append-nil text)
sign_stays text (c ∷ rest) ends = found_stays signs text rest c ends

-- whether a spelling goes on with a character
abbrev pub spelling_takes : List ℕ → ℕ → Bool
spelling_takes text c =
    if is_ascii_alphabetic (slice_index text 0) then is_in_word c
    else (if is_ascii_alphabetic (slice_index text 1) then is_ascii_alphabetic c
    else begins_longer text c)

-- whether a token goes on with a character
abbrev pub takes : Token → ℕ → Bool
takes (token.Word word) c = is_in_word c
takes (token.Number number) c = is_ascii_digit c
takes (token.Mark mark) c = spelling_takes (mark_text mark) c
takes (token.LeftOut word) c = spelling_takes (left_out_text word) c
