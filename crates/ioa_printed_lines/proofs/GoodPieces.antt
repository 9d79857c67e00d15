-- The pieces of a printed value are tokens of a line, and none runs into the next.
use Rattle.std.proofs.Common.{◌≡◌, ℕ, zero, suc, ◌<◌, ℤ, pos, negsuc, Bool, true, false, nat_lt, List, [], ◌∷◌, get_or, length, refl, arith}
use Rattle.std.specs.List.{AllByRecursion}
use Rattle.std.proofs.lemmas.Bool.{cond_both}
use Rattle.std.proofs.lemmas.Bool.Decides.{nat_tests}
use Rattle.ioa_values.specs.Data.{Data, fits, number, truth, constant, tuple, sequence, finite_set, finite_map}
use Rattle.ioa_values.specs.Data.{Items, no_items, item, Entries, no_entries, entry}
use Rattle.ioa_tokens.specs.declared.mark.Mark.TheVariants as mark
use Rattle.ioa_tokens.specs.declared.token.Token.{Token}
use Rattle.ioa_tokens.specs.declared.token.Token.TheVariants as token
use Rattle.ioa_tokens.specs.declared.written.Gap.{Gap}
use Rattle.ioa_tokens.specs.declared.written.Gap.TheVariants as gap
use Rattle.ioa_tokens.specs.Lexeme.{greatest_number}
use Rattle.ioa_tokens.specs.Tables.{mark_text, signs, reserved}
use Rattle.ioa_tokens.specs.Written.{IsName, IsApartFrom}
use Rattle.ioa_tokens.proofs.Apart.{loose_touches, apart_from_closed}
use Rattle.ioa_printed_lines.proofs.Printables.{IsPrintable, ArePrintable, ArePrintableEntries}
use Rattle.ioa_printed_lines.proofs.WrittenLines.{IsInLine, IsLineToken, AreLineTokens}
use Rattle.ioa_printed_lines.proofs.ValuePieces.{Pieces, amount, number_pieces, truth_mark, value_pieces, items_pieces, more_pieces, entries_pieces, more_entries_pieces}

-- these pieces may come behind any token
abbrev pub IsLoose : Pieces → Type 0
IsLoose rest = (t : Token) → IsApartFrom t rest

-- each of some names
pub name_at : (P : List ℕ → Type 0) (names : List (List ℕ)) (k : ℕ) → AllByRecursion P names → k < length names → P (get_or names k [])
name_at P [] k all within = absurd (omega arith)
name_at P (w ∷ names) zero all within = all.0
name_at P (w ∷ names) (suc k) all within = name_at P names k all.1 (omega arith)

-- a number behind a `-`
amount_good : (n : ℕ) → fits (negsuc n) ≡ true → IsLineToken true (token.Number (amount n))
amount_good n within =
    cond_both (nat_lt n greatest_number) (pos (suc n)) (negsuc n) (λ z. IsLineToken true (token.Number z))
    (λ less. grind (arith, nat_tests)) (λ other. (refl, grind (arith, nat_tests)))

-- a number
pub number_good : (g : Gap) (z : ℤ) (rest : Pieces) → IsInLine g → fits z ≡ true → IsLoose rest → AreLineTokens false rest → AreLineTokens false (number_pieces g z rest)
unfolding mark_text signs reserved
number_good g (pos n) rest in_line within loose good = (in_line, grind (arith, nat_tests), loose (token.Number (pos n)), good)
number_good g (negsuc n) rest in_line within loose good = (in_line, tt, refl, (tt, amount_good n within, loose (token.Number (amount n)), good))

-- a value that is printed behind a space is apart from any token
pub spaced_loose : (names : List (List ℕ)) (v : Data) (rest : Pieces) → IsLoose (value_pieces names gap.Spaced v rest)
spaced_loose names (number (pos n)) rest t = refl
spaced_loose names (number (negsuc n)) rest t = refl
spaced_loose names (truth b) rest t = refl
spaced_loose names (constant k) rest t = refl
spaced_loose names (tuple ds) rest t = refl
spaced_loose names (sequence ds) rest t = refl
spaced_loose names (finite_set ds) rest t = refl
spaced_loose names (finite_map es) rest t = refl

-- a comma and brackets that close may come behind any token
pub comma_loose : (rest : Pieces) → IsLoose ((gap.Joined, token.Mark mark.Comma) ∷ rest)
unfolding mark_text signs reserved
comma_loose rest t = loose_touches t mark.Comma refl

square_loose : (rest : Pieces) → IsLoose ((gap.Joined, token.Mark mark.CloseSquare) ∷ rest)
unfolding mark_text signs reserved
square_loose rest t = loose_touches t mark.CloseSquare refl

brace_loose : (rest : Pieces) → IsLoose ((gap.Joined, token.Mark mark.CloseBrace) ∷ rest)
unfolding mark_text signs reserved
brace_loose rest t = loose_touches t mark.CloseBrace refl

-- items behind commas may
pub more_loose : (names : List (List ℕ)) (ds : Items) (rest : Pieces) → IsLoose rest → IsLoose (more_pieces names ds rest)
more_loose names no_items rest loose = loose
more_loose names (item d ds) rest loose = comma_loose (value_pieces names gap.Spaced d (more_pieces names ds rest))

more_entries_loose : (names : List (List ℕ)) (es : Entries) (rest : Pieces) → IsLoose rest → IsLoose (more_entries_pieces names es rest)
more_entries_loose names no_entries rest loose = loose
more_entries_loose names (entry k v es) rest loose = comma_loose (value_pieces names gap.Spaced k ((gap.Spaced, token.Mark mark.Arrow) ∷ value_pieces names gap.Spaced v (more_entries_pieces names es rest)))

-- a truth value
truth_good : (g : Gap) (b : Bool) (rest : Pieces) → IsInLine g → IsLoose rest → AreLineTokens false rest → AreLineTokens false ((g, truth_mark b) ∷ rest)
truth_good g true rest in_line loose good = (in_line, tt, loose (token.Mark mark.True), good)
truth_good g false rest in_line loose good = (in_line, tt, loose (token.Mark mark.False), good)

module _ (names : List (List ℕ)) (words : AllByRecursion IsName names) where
  mutual
    -- a value
    pub value_good : (g : Gap) (v : Data) (rest : Pieces) → IsInLine g → IsPrintable (length names) v → IsLoose rest → AreLineTokens false rest → AreLineTokens false (value_pieces names g v rest)
    value_good g (number z) rest in_line is loose good = number_good g z rest in_line is loose good
    value_good g (truth b) rest in_line is loose good = truth_good g b rest in_line loose good
    value_good g (constant k) rest in_line is loose good = (in_line, name_at IsName names k words is, loose (token.Word (get_or names k [])), good)
    value_good g (tuple no_items) rest in_line is loose good = absurd is
    value_good g (tuple (item d ds)) rest in_line is loose good =
        let end : Pieces = (gap.Joined, token.Mark mark.CloseSquare) ∷ rest in
        (in_line, tt, apart_from_closed mark.OpenSquare (items_pieces names (item d ds) end) refl, items_good (item d ds) end is (square_loose rest) (tt, tt, loose (token.Mark mark.CloseSquare), good))
    value_good g (sequence ds) rest in_line is loose good =
        let end : Pieces = (gap.Joined, token.Mark mark.CloseBrace) ∷ rest in
        (in_line, tt, apart_from_closed mark.OpenBrace (items_pieces names ds end) refl, items_good ds end is (brace_loose rest) (tt, tt, loose (token.Mark mark.CloseBrace), good))
    value_good g (finite_set ds) rest in_line is loose good =
        let end : Pieces = (gap.Joined, token.Mark mark.CloseBrace) ∷ rest in
        (in_line, tt, apart_from_closed mark.OpenBrace (items_pieces names ds end) refl, items_good ds end is (brace_loose rest) (tt, tt, loose (token.Mark mark.CloseBrace), good))
    value_good g (finite_map es) rest in_line is loose good =
        let end : Pieces = (gap.Joined, token.Mark mark.CloseBrace) ∷ rest in
        (in_line, tt, apart_from_closed mark.OpenBrace (entries_pieces names es end) refl, entries_good es end is (brace_loose rest) (tt, tt, loose (token.Mark mark.CloseBrace), good))

    -- items
    pub items_good : (ds : Items) (rest : Pieces) → ArePrintable (length names) ds → IsLoose rest → AreLineTokens false rest → AreLineTokens false (items_pieces names ds rest)
    items_good no_items rest are loose good = good
    items_good (item d ds) rest are loose good =
        value_good gap.Joined d (more_pieces names ds rest) tt are.0 (more_loose names ds rest loose) (more_good ds rest are.1 loose good)

    -- items behind commas
    pub more_good : (ds : Items) (rest : Pieces) → ArePrintable (length names) ds → IsLoose rest → AreLineTokens false rest → AreLineTokens false (more_pieces names ds rest)
    more_good no_items rest are loose good = good
    more_good (item d ds) rest are loose good =
        let first = value_good gap.Spaced d (more_pieces names ds rest) tt are.0 (more_loose names ds rest loose) (more_good ds rest are.1 loose good) in
        (tt, tt, spaced_loose names d (more_pieces names ds rest) (token.Mark mark.Comma), first)

    -- entries
    entries_good : (es : Entries) (rest : Pieces) → ArePrintableEntries (length names) es → IsLoose rest → AreLineTokens false rest → AreLineTokens false (entries_pieces names es rest)
    entries_good no_entries rest are loose good = good
    entries_good (entry k v es) rest are loose good =
        let more = more_entries_pieces names es rest in
        let value = value_good gap.Spaced v more tt are.0.1 (more_entries_loose names es rest loose) (more_entries_good es rest are.1 loose good) in
        value_good gap.Joined k ((gap.Spaced, token.Mark mark.Arrow) ∷ value_pieces names gap.Spaced v more) tt are.0.0 (λ t. refl) (tt, tt, spaced_loose names v more (token.Mark mark.Arrow), value)

    -- entries behind commas
    more_entries_good : (es : Entries) (rest : Pieces) → ArePrintableEntries (length names) es → IsLoose rest → AreLineTokens false rest → AreLineTokens false (more_entries_pieces names es rest)
    more_entries_good no_entries rest are loose good = good
    more_entries_good (entry k v es) rest are loose good =
        let more = more_entries_pieces names es rest in
        let value = value_good gap.Spaced v more tt are.0.1 (more_entries_loose names es rest loose) (more_entries_good es rest are.1 loose good) in
        let behind : Pieces = (gap.Spaced, token.Mark mark.Arrow) ∷ value_pieces names gap.Spaced v more in
        let key = value_good gap.Spaced k behind tt are.0.0 (λ t. refl) (tt, tt, spaced_loose names v more (token.Mark mark.Arrow), value) in
        (tt, tt, spaced_loose names k behind (token.Mark mark.Comma), key)
