-- The tokens that a value is printed as, each behind its gap, in front of others.
use Rattle.std.proofs.Common.{◌≡◌, ℕ, suc, ℤ, pos, negsuc, Bool, true, false, nat_lt, List, [], ◌∷◌, ◌++◌, codes, get_or, decimal, refl, sym, ap, ◌∙◌, append_assoc, append-nil}
use Rattle.std.specs.Prelude.{if◌then◌else◌}
use Rattle.std.specs.Fmt.{signed_decimal}
use Rattle.std.proofs.lemmas.Bool.{cond_both}
use Rattle.ioa_values.specs.Data.{Data, number, truth, constant, tuple, sequence, finite_set, finite_map}
use Rattle.ioa_values.specs.Data.{Items, no_items, item, Entries, no_entries, entry}
use Rattle.ioa_values.specs.Text.{text, texts, entry_texts, with_commas, truth_text}
use Rattle.ioa_tokens.specs.declared.mark.Mark.TheVariants as mark
use Rattle.ioa_tokens.specs.declared.token.Token.{Token}
use Rattle.ioa_tokens.specs.declared.token.Token.TheVariants as token
use Rattle.ioa_tokens.specs.declared.written.Gap.{Gap}
use Rattle.ioa_tokens.specs.declared.written.Gap.TheVariants as gap
use Rattle.ioa_tokens.specs.Lexeme.{greatest_number}
use Rattle.ioa_tokens.specs.Tables.{mark_text, signs, reserved}
use Rattle.ioa_tokens.specs.Written.{gap_text}
use Rattle.ioa_printed_lines.proofs.WrittenLines.{amount_text, line_text}

-- pieces of a line
abbrev pub Pieces : Type 0
Pieces = List (Gap × Token)

-- the number token behind a `-`: the amount, or the least number for its own
abbrev pub amount : ℕ → ℤ
amount n = if nat_lt n greatest_number then pos (suc n) else negsuc n

-- a number
abbrev pub number_pieces : Gap → ℤ → Pieces → Pieces
number_pieces g (pos n) rest = (g, token.Number (pos n)) ∷ rest
number_pieces g (negsuc n) rest = (g, token.Mark mark.Minus) ∷ (gap.Joined, token.Number (amount n)) ∷ rest

-- a truth value
abbrev pub truth_mark : Bool → Token
truth_mark true = token.Mark mark.True
truth_mark false = token.Mark mark.False

abbrev mutual
  -- a value
  pub value_pieces : List (List ℕ) → Gap → Data → Pieces → Pieces
  value_pieces names g (number z) rest = number_pieces g z rest
  value_pieces names g (truth b) rest = (g, truth_mark b) ∷ rest
  value_pieces names g (constant k) rest = (g, token.Word (get_or names k [])) ∷ rest
  value_pieces names g (tuple ds) rest = (g, token.Mark mark.OpenSquare) ∷ items_pieces names ds ((gap.Joined, token.Mark mark.CloseSquare) ∷ rest)
  value_pieces names g (sequence ds) rest = (g, token.Mark mark.OpenBrace) ∷ items_pieces names ds ((gap.Joined, token.Mark mark.CloseBrace) ∷ rest)
  value_pieces names g (finite_set ds) rest = (g, token.Mark mark.OpenBrace) ∷ items_pieces names ds ((gap.Joined, token.Mark mark.CloseBrace) ∷ rest)
  value_pieces names g (finite_map es) rest = (g, token.Mark mark.OpenBrace) ∷ entries_pieces names es ((gap.Joined, token.Mark mark.CloseBrace) ∷ rest)

  -- items with commas between
  pub items_pieces : List (List ℕ) → Items → Pieces → Pieces
  items_pieces names no_items rest = rest
  items_pieces names (item d ds) rest = value_pieces names gap.Joined d (more_pieces names ds rest)

  -- items, each behind a comma
  pub more_pieces : List (List ℕ) → Items → Pieces → Pieces
  more_pieces names no_items rest = rest
  more_pieces names (item d ds) rest = (gap.Joined, token.Mark mark.Comma) ∷ value_pieces names gap.Spaced d (more_pieces names ds rest)

  -- entries with commas between
  pub entries_pieces : List (List ℕ) → Entries → Pieces → Pieces
  entries_pieces names no_entries rest = rest
  entries_pieces names (entry k v es) rest = value_pieces names gap.Joined k ((gap.Spaced, token.Mark mark.Arrow) ∷ value_pieces names gap.Spaced v (more_entries_pieces names es rest))

  -- entries, each behind a comma
  pub more_entries_pieces : List (List ℕ) → Entries → Pieces → Pieces
  more_entries_pieces names no_entries rest = rest
  more_entries_pieces names (entry k v es) rest = (gap.Joined, token.Mark mark.Comma) ∷ value_pieces names gap.Spaced k ((gap.Spaced, token.Mark mark.Arrow) ∷ value_pieces names gap.Spaced v (more_entries_pieces names es rest))

-- the arrow and the value of an entry, and the entries behind it
abbrev arrow_pieces : List (List ℕ) → Data → Entries → Pieces → Pieces
arrow_pieces names v es rest = (gap.Spaced, token.Mark mark.Arrow) ∷ value_pieces names gap.Spaced v (more_entries_pieces names es rest)

-- the text of a number behind a `-`
amount_is : (n : ℕ) → amount_text (token.Number (amount n)) ≡ decimal (suc n)
amount_is n = cond_both (nat_lt n greatest_number) (pos (suc n)) (negsuc n) (λ z. amount_text (token.Number z) ≡ decimal (suc n)) (λ _. refl) (λ _. refl)

-- the text of a number
pub number_written : (g : Gap) (z : ℤ) (rest : Pieces) → line_text (number_pieces g z rest) ≡ gap_text g ++ (signed_decimal z ++ line_text rest)
unfolding mark_text signs reserved
number_written g (pos n) rest = refl
number_written g (negsuc n) rest = rw amount_is refl

-- the text of a truth value
truth_written : (b : Bool) → amount_text (truth_mark b) ≡ truth_text b
unfolding mark_text signs reserved
truth_written true = refl
truth_written false = refl

-- a text in brackets
pub bracketed : (before left middle right after : List ℕ) → before ++ (left ++ (middle ++ (right ++ after))) ≡ before ++ ((left ++ middle ++ right) ++ after)
bracketed before left middle right after = rw (append_assoc (left ++ middle) right after, append_assoc left middle (right ++ after)) refl

-- the texts of items and of entries, each behind a comma and a space
abbrev more_text : List (List ℕ) → Items → List ℕ
more_text names no_items = []
more_text names (item d ds) = codes ", " ++ (text names d ++ more_text names ds)

abbrev more_entries_text : List (List ℕ) → Entries → List ℕ
more_entries_text names no_entries = []
more_entries_text names (entry k v es) = codes ", " ++ ((text names k ++ codes " -> " ++ text names v) ++ more_entries_text names es)

-- the same behind the first
commas_between : (names : List (List ℕ)) (d : Data) (ds : Items) → with_commas (texts names (item d ds)) ≡ text names d ++ more_text names ds
commas_between names d no_items = sym (append-nil (text names d))
commas_between names d (item e es) = ap (λ l. text names d ++ codes ", " ++ l) (commas_between names e es) ∙ append_assoc (text names d) (codes ", ") (text names e ++ more_text names es)

commas_between_entries : (names : List (List ℕ)) (k v : Data) (es : Entries) → with_commas (entry_texts names (entry k v es)) ≡ (text names k ++ codes " -> " ++ text names v) ++ more_entries_text names es
commas_between_entries names k v no_entries = sym (append-nil (text names k ++ codes " -> " ++ text names v))
commas_between_entries names k v (entry l w es) =
    let first = text names k ++ codes " -> " ++ text names v in
    let second = text names l ++ codes " -> " ++ text names w in
    ap (λ t. first ++ codes ", " ++ t) (commas_between_entries names l w es) ∙ append_assoc first (codes ", ") (second ++ more_entries_text names es)

-- an entry's text before another text
entry_joined : (key value rest : List ℕ) → key ++ (codes " -> " ++ (value ++ rest)) ≡ (key ++ codes " -> " ++ value) ++ rest
entry_joined key value rest = rw (append_assoc (key ++ codes " -> ") value rest, append_assoc key (codes " -> ") (value ++ rest)) refl

-- the text of an entry and of those behind it, by the texts of its parts
entry_written : (names : List (List ℕ)) (g : Gap) (k v : Data) (es : Entries) (rest : Pieces) →
    line_text (value_pieces names g k (arrow_pieces names v es rest)) ≡ gap_text g ++ (text names k ++ line_text (arrow_pieces names v es rest)) →
    line_text (value_pieces names gap.Spaced v (more_entries_pieces names es rest)) ≡ codes " " ++ (text names v ++ line_text (more_entries_pieces names es rest)) →
    line_text (more_entries_pieces names es rest) ≡ more_entries_text names es ++ line_text rest →
    line_text (value_pieces names g k (arrow_pieces names v es rest)) ≡ gap_text g ++ ((text names k ++ codes " -> " ++ text names v) ++ (more_entries_text names es ++ line_text rest))
unfolding mark_text signs reserved
entry_written names g k v es rest key value more =
    key
    ∙ ap (λ l. gap_text g ++ (text names k ++ (codes " ->" ++ l))) value
    ∙ ap (λ l. gap_text g ++ (text names k ++ (codes " -> " ++ (text names v ++ l)))) more
    ∙ ap (λ l. gap_text g ++ l) (entry_joined (text names k) (text names v) (more_entries_text names es ++ line_text rest))

mutual
  unfolding mark_text signs reserved

  -- the text of a value
  pub value_written : (names : List (List ℕ)) (g : Gap) (v : Data) (rest : Pieces) → line_text (value_pieces names g v rest) ≡ gap_text g ++ (text names v ++ line_text rest)
  value_written names g (number z) rest = number_written g z rest
  value_written names g (truth b) rest = ap (λ t. gap_text g ++ (t ++ line_text rest)) (truth_written b)
  value_written names g (constant k) rest = refl
  value_written names g (tuple ds) rest =
      ap (λ l. gap_text g ++ (codes "[" ++ l)) (items_written names ds ((gap.Joined, token.Mark mark.CloseSquare) ∷ rest))
      ∙ bracketed (gap_text g) (codes "[") (with_commas (texts names ds)) (codes "]") (line_text rest)
  value_written names g (sequence ds) rest =
      ap (λ l. gap_text g ++ (codes "{" ++ l)) (items_written names ds ((gap.Joined, token.Mark mark.CloseBrace) ∷ rest))
      ∙ bracketed (gap_text g) (codes "{") (with_commas (texts names ds)) (codes "}") (line_text rest)
  value_written names g (finite_set ds) rest =
      ap (λ l. gap_text g ++ (codes "{" ++ l)) (items_written names ds ((gap.Joined, token.Mark mark.CloseBrace) ∷ rest))
      ∙ bracketed (gap_text g) (codes "{") (with_commas (texts names ds)) (codes "}") (line_text rest)
  value_written names g (finite_map es) rest =
      ap (λ l. gap_text g ++ (codes "{" ++ l)) (entries_written names es ((gap.Joined, token.Mark mark.CloseBrace) ∷ rest))
      ∙ bracketed (gap_text g) (codes "{") (with_commas (entry_texts names es)) (codes "}") (line_text rest)

  -- the texts of items
  pub items_written : (names : List (List ℕ)) (ds : Items) (rest : Pieces) → line_text (items_pieces names ds rest) ≡ with_commas (texts names ds) ++ line_text rest
  items_written names no_items rest = refl
  items_written names (item d ds) rest =
      value_written names gap.Joined d (more_pieces names ds rest)
      ∙ ap (λ l. text names d ++ l) (more_written names ds rest)
      ∙ sym (append_assoc (text names d) (more_text names ds) (line_text rest))
      ∙ ap (λ l. l ++ line_text rest) (sym (commas_between names d ds))

  more_written : (names : List (List ℕ)) (ds : Items) (rest : Pieces) → line_text (more_pieces names ds rest) ≡ more_text names ds ++ line_text rest
  more_written names no_items rest = refl
  more_written names (item d ds) rest =
      ap (λ l. codes "," ++ l) (value_written names gap.Spaced d (more_pieces names ds rest))
      ∙ ap (λ l. codes ", " ++ (text names d ++ l)) (more_written names ds rest)
      ∙ ap (λ l. codes ", " ++ l) (sym (append_assoc (text names d) (more_text names ds) (line_text rest)))

  -- the texts of entries
  entries_written : (names : List (List ℕ)) (es : Entries) (rest : Pieces) → line_text (entries_pieces names es rest) ≡ with_commas (entry_texts names es) ++ line_text rest
  entries_written names no_entries rest = refl
  entries_written names (entry k v es) rest =
      let first = text names k ++ codes " -> " ++ text names v in
      entry_written names gap.Joined k v es rest (value_written names gap.Joined k (arrow_pieces names v es rest)) (value_written names gap.Spaced v (more_entries_pieces names es rest)) (more_entries_written names es rest)
      ∙ sym (append_assoc first (more_entries_text names es) (line_text rest))
      ∙ ap (λ l. l ++ line_text rest) (sym (commas_between_entries names k v es))

  more_entries_written : (names : List (List ℕ)) (es : Entries) (rest : Pieces) → line_text (more_entries_pieces names es rest) ≡ more_entries_text names es ++ line_text rest
  more_entries_written names no_entries rest = refl
  more_entries_written names (entry k v es) rest =
      let first = text names k ++ codes " -> " ++ text names v in
      ap (λ l. codes "," ++ l) (entry_written names gap.Spaced k v es rest (value_written names gap.Spaced k (arrow_pieces names v es rest)) (value_written names gap.Spaced v (more_entries_pieces names es rest)) (more_entries_written names es rest))
      ∙ ap (λ l. codes ", " ++ l) (sym (append_assoc first (more_entries_text names es) (line_text rest)))
