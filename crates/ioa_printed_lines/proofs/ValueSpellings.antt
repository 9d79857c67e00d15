-- The tokens that a value is printed as are a spelling of it.
use Rattle.std.proofs.Common.{◌≡◌, ℕ, suc, ◌<◌, ℤ, pos, negsuc, Bool, true, false, nat_eq, nat_lt, List, [], ◌∷◌, get_or, length, Some, refl, subst, map}
use Rattle.std.specs.List.{IsDistinct}
use lib.Pointwise.{pointwise}
use Rattle.std.proofs.lemmas.Bool.{cond_both}
use Rattle.std.proofs.lemmas.Option.{slice_get-get_or}
use Rattle.ioa_values.specs.Data.{Data, number, truth, constant, tuple, sequence, finite_set, finite_map}
use Rattle.ioa_values.specs.Data.{Items, no_items, item, Entries, no_entries, entry}
use Rattle.ioa_values.specs.Canonical.{IsCanonical, AreCanonical, AreCanonicalEntries}
use Rattle.ioa_tokens.specs.declared.mark.Mark.TheVariants as mark
use Rattle.ioa_tokens.specs.declared.token.Token.{Token}
use Rattle.ioa_tokens.specs.declared.token.Token.TheVariants as token
use Rattle.ioa_tokens.specs.declared.written.Gap.{Gap}
use Rattle.ioa_tokens.specs.declared.written.Gap.TheVariants as gap
use Rattle.ioa_tokens.specs.Lexeme.{greatest_number}
use Rattle.ioa_value_reader.specs.Grammar.{SpellsValue, SpellsItems, SpellsEntries, plus, minus, is_true, is_false, named, parts, empty_sequence, empty_set, empty_map, items, members, entries, single, followed, single_entry, followed_entry, constant_named, minus_amount}
use Rattle.ioa_printed_lines.proofs.Printables.{IsPrintable, ArePrintable, ArePrintableEntries}
use Rattle.ioa_value_reader.proofs.NamedConstants.{named_once}
use Rattle.ioa_printed_lines.proofs.ValuePieces.{Pieces, amount, number_pieces, truth_mark, value_pieces, more_pieces, more_entries_pieces}

-- the tokens of pieces
abbrev pub piece_tokens : Pieces → List Token
piece_tokens ws = map (λ w. w.1) ws

-- the first constant of a name is the one that has it
constant_found : (names : List (List ℕ)) (k : ℕ) → IsDistinct (pointwise nat_eq) names → k < length names → constant_named names (get_or names k []) ≡ Some k
constant_found names k differ within = named_once names (get_or names k []) k differ (slice_get-get_or names k [] within)

-- a number behind a `-`
amount_negative : (n : ℕ) → minus_amount (amount n) ≡ negsuc n
amount_negative n = cond_both (nat_lt n greatest_number) (pos (suc n)) (negsuc n) (λ z. minus_amount z ≡ negsuc n) (λ _. refl) (λ _. refl)

-- a number
pub number_spelled : (names : List (List ℕ)) (g : Gap) (z : ℤ) (rest : Pieces) → SpellsValue names (number z) (piece_tokens (number_pieces g z rest)) (piece_tokens rest)
number_spelled names g (pos n) rest = plus
number_spelled names g (negsuc n) rest = subst (λ z. SpellsValue names (number z) (token.Mark mark.Minus ∷ token.Number (amount n) ∷ piece_tokens rest) (piece_tokens rest)) (amount_negative n) (minus {n = amount n})

truth_spelled : (names : List (List ℕ)) (b : Bool) (ys : List Token) → SpellsValue names (truth b) (truth_mark b ∷ ys) ys
truth_spelled names true ys = is_true
truth_spelled names false ys = is_false

-- items and entries of which the first stands behind a gap
abbrev items_behind : List (List ℕ) → Gap → Items → Pieces → Pieces
items_behind names g no_items rest = rest
items_behind names g (item d ds) rest = value_pieces names g d (more_pieces names ds rest)

abbrev entries_behind : List (List ℕ) → Gap → Entries → Pieces → Pieces
entries_behind names g no_entries rest = rest
entries_behind names g (entry k v es) rest = value_pieces names g k ((gap.Spaced, token.Mark mark.Arrow) ∷ value_pieces names gap.Spaced v (more_entries_pieces names es rest))

-- there are items, or entries
abbrev AreThere : Items → Type 0
AreThere no_items = ⊥
AreThere (item d ds) = Unit {0}

abbrev AreEntriesThere : Entries → Type 0
AreEntriesThere no_entries = ⊥
AreEntriesThere (entry k v es) = Unit {0}

module _ (names : List (List ℕ)) (differ : IsDistinct (pointwise nat_eq) names) where
  mutual
    -- a value
    pub value_spelled : (g : Gap) (v : Data) (rest : Pieces) → IsPrintable (length names) v → IsCanonical v → SpellsValue names v (piece_tokens (value_pieces names g v rest)) (piece_tokens rest)
    value_spelled g (number z) rest is canonical = number_spelled names g z rest
    value_spelled g (truth b) rest is canonical = truth_spelled names b (piece_tokens rest)
    value_spelled g (constant k) rest is canonical = named (constant_found names k differ is)
    value_spelled g (tuple no_items) rest is canonical = absurd is
    value_spelled g (tuple (item d ds)) rest is canonical = parts (items_spelled gap.Joined (item d ds) ((gap.Joined, token.Mark mark.CloseSquare) ∷ rest) tt is canonical)
    value_spelled g (sequence no_items) rest is canonical = empty_sequence
    value_spelled g (sequence (item d ds)) rest is canonical = items (items_spelled gap.Joined (item d ds) ((gap.Joined, token.Mark mark.CloseBrace) ∷ rest) tt is canonical)
    value_spelled g (finite_set no_items) rest is canonical = empty_set
    value_spelled g (finite_set (item d ds)) rest is canonical = members canonical.0 (items_spelled gap.Joined (item d ds) ((gap.Joined, token.Mark mark.CloseBrace) ∷ rest) tt is canonical.1)
    value_spelled g (finite_map no_entries) rest is canonical = empty_map
    value_spelled g (finite_map (entry k v es)) rest is canonical = entries canonical.0 (entries_spelled gap.Joined (entry k v es) ((gap.Joined, token.Mark mark.CloseBrace) ∷ rest) tt is canonical.1)

    -- items
    pub items_spelled : (g : Gap) (ds : Items) (rest : Pieces) → AreThere ds → ArePrintable (length names) ds → AreCanonical ds → SpellsItems names ds (piece_tokens (items_behind names g ds rest)) (piece_tokens rest)
    items_spelled g no_items rest there are canonical = absurd there
    items_spelled g (item d no_items) rest there are canonical = single (value_spelled g d rest are.0 canonical.0)
    items_spelled g (item d (item e ds)) rest there are canonical =
        followed (value_spelled g d (more_pieces names (item e ds) rest) are.0 canonical.0) (items_spelled gap.Spaced (item e ds) rest tt are.1 canonical.1)

    -- entries
    entries_spelled : (g : Gap) (es : Entries) (rest : Pieces) → AreEntriesThere es → ArePrintableEntries (length names) es → AreCanonicalEntries es → SpellsEntries names es (piece_tokens (entries_behind names g es rest)) (piece_tokens rest)
    entries_spelled g no_entries rest there are canonical = absurd there
    entries_spelled g (entry k v no_entries) rest there are canonical =
        single_entry (value_spelled g k ((gap.Spaced, token.Mark mark.Arrow) ∷ value_pieces names gap.Spaced v rest) are.0.0 canonical.0.0) (value_spelled gap.Spaced v rest are.0.1 canonical.0.1)
    entries_spelled g (entry k v (entry l w es)) rest there are canonical =
        let more = more_entries_pieces names (entry l w es) rest in
        followed_entry (value_spelled g k ((gap.Spaced, token.Mark mark.Arrow) ∷ value_pieces names gap.Spaced v more) are.0.0 canonical.0.0) (value_spelled gap.Spaced v more are.0.1 canonical.0.1) (entries_spelled gap.Spaced (entry l w es) rest tt are.1 canonical.1)
