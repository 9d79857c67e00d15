-- How the signs and the words of the language are written (profile). The tables are the constants of the code.
use Rattle.std.specs.Prelude.{ℕ, Bool, List, [], ◌∷◌, map, nat_eq, Option, Some, None, if◌then◌else◌}
use Rattle.std.specs.List.{starts_with}
use Rattle.std.specs.Map.{lookup, lookup_entry}
use Rattle.std.specs.Option.{option_or, unwrap_or}
use Rattle.std.specs.Str.{bytes_eq}
use Rattle.std.specs.Borrow.{Bor}
use denote.Enum.Bare.{sameb}
use Rattle.ioa_tokens.specs.contracts.mark.Mark as mark_contract
use Rattle.ioa_tokens.specs.contracts.mark.LeftOut as left_out_contract
use Rattle.ioa_tokens.specs.declared.mark.Mark.{Mark}
use Rattle.ioa_tokens.specs.declared.mark.LeftOut.{LeftOut}
use Rattle.ioa_tokens.specs.declared.table.TheConstants.{SIGNS, RESERVED, LEFT_OUT}

-- a row of the code's tables: a text, by its bytes, and what it means
abbrev pub spelled_row : {A : Type 0} → Bor (List ℕ) × A → List ℕ × A
spelled_row row = (row.0.now, row.1)

-- all rows of a table
abbrev pub spelled_rows : {A : Type 0} → List (Bor (List ℕ) × A) → List (List ℕ × A)
spelled_rows rows = map spelled_row rows

-- the same of a table that is a constant: there a reference to a text has only its bytes
abbrev pub constant_row : {A : Type 0} → record { now : List ℕ } × A → List ℕ × A
constant_row row = (row.0.now, row.1)

-- the signs, but `\in`, which is written with letters; a sign comes before each shorter one that it begins with
unfoldable pub signs : List (List ℕ × Mark)
signs = map constant_row SIGNS

-- the reserved words, and the sign that is written with letters
unfoldable pub reserved : List (List ℕ × Mark)
reserved = map constant_row RESERVED

-- the words that the profile leaves out
unfoldable pub left_out_words : List (List ℕ × LeftOut)
left_out_words = map constant_row LEFT_OUT

-- the text of the first row whose meaning passes a test, if a row's does
abbrev pub first_text : {A : Type 0} → (A → Bool) → List (List ℕ × A) → Option (List ℕ)
first_text is [] = None
first_text is (row ∷ rows) = if is row.1 then Some row.0 else first_text is rows

-- whether two marks are the same
abbrev pub same_mark : Mark → Mark → Bool
same_mark = sameb mark_contract.the_type

-- whether two left-out words are the same
abbrev pub same_left_out : LeftOut → LeftOut → Bool
same_left_out = sameb left_out_contract.the_type

-- how a sign or a reserved word is written
unfoldable pub mark_text : Mark → List ℕ
mark_text m =
    unwrap_or (option_or (first_text (λ k. same_mark k m) signs) (first_text (λ k. same_mark k m) reserved)) []

-- how a left-out word is written
unfoldable pub left_out_text : LeftOut → List ℕ
left_out_text word = unwrap_or (first_text (λ k. same_left_out k word) left_out_words) []

-- the longest sign that a text begins with, and how it is written
abbrev pub sign_at_head : List ℕ → Option (List ℕ × Mark)
sign_at_head text = lookup_entry (starts_with nat_eq text) signs

-- the mark of a reserved word
abbrev pub reserved_word : List ℕ → Option Mark
reserved_word word = lookup (bytes_eq word) reserved

-- the left-out word of these bytes
abbrev pub left_out_word : List ℕ → Option LeftOut
left_out_word word = lookup (bytes_eq word) left_out_words
