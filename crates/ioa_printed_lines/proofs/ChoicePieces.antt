-- The tokens that chosen values are printed as, and those of an entry: each behind its gap, tokens of a line, and a
-- spelling of what was chosen.
use Rattle.std.proofs.Common.{◌≡◌, ℕ, nat_eq, true, false, List, [], ◌∷◌, ◌++◌, codes, length, refl, sym, ap, ◌∙◌, append_assoc}
use Rattle.std.specs.List.{AllByRecursion, IsDistinct, list_all}
use lib.Pointwise.{pointwise}
use Rattle.ioa_values.specs.Canonical.{AreCanonical, IsCanonical}
use Rattle.ioa_values.specs.Data.{Data, items_of, number, truth, constant}
use Rattle.ioa_values.specs.Text.{with_commas}
use Rattle.ioa_tokens.specs.declared.mark.Mark.TheVariants as mark
use Rattle.ioa_tokens.specs.declared.token.Token.TheVariants as token
use Rattle.ioa_tokens.specs.declared.written.Gap.{Gap}
use Rattle.ioa_tokens.specs.declared.written.Gap.TheVariants as gap
use Rattle.ioa_tokens.specs.Tables.{mark_text, signs, reserved}
use Rattle.ioa_tokens.specs.Written.{IsName, gap_text}
use Rattle.ioa_actions.specs.ActionText.{action_text, chosen_text, entry_text}
use Rattle.ioa_transitions.specs.Entries.{PlainEntry}
use Rattle.ioa_lines.specs.Grammar.{SpellsChosen, chosen, is_simple, nothing_chosen}
use Rattle.ioa_printed_lines.specs.TextSystems.{MayChoose}
use Rattle.ioa_printed_lines.proofs.ActionPieces.{action_pieces, action_written, texts_listed}
use Rattle.ioa_printed_lines.proofs.GoodPieces.{IsLoose, more_good, more_loose, spaced_loose, value_good}
use Rattle.ioa_printed_lines.proofs.Printables.{ArePrintable, IsPrintable}
use Rattle.ioa_printed_lines.proofs.ValueSpellings.{items_spelled, piece_tokens}
use Rattle.ioa_printed_lines.proofs.ValuePieces.{Pieces, items_written, more_pieces, value_pieces, value_written}
use Rattle.ioa_printed_lines.proofs.WrittenLines.{AreLineTokens, line_text}

-- chosen values behind `choose`, or nothing if there are none
abbrev pub choice_pieces : List (List ℕ) → List Data → Pieces → Pieces
choice_pieces names [] rest = rest
choice_pieces names (v ∷ vs) rest = (gap.Spaced, token.Mark mark.Choose) ∷ value_pieces names gap.Spaced v (more_pieces names (items_of vs) rest)

-- an entry
abbrev pub entry_pieces : List (List ℕ) → Gap → PlainEntry → Pieces → Pieces
entry_pieces names g e rest = action_pieces names g e.action (choice_pieces names e.chosen rest)

-- the text of chosen values
choice_written : (names : List (List ℕ)) (vs : List Data) (rest : Pieces) → line_text (choice_pieces names vs rest) ≡ chosen_text names vs ++ line_text rest
unfolding mark_text signs reserved
choice_written names [] rest = refl
choice_written names (v ∷ vs) rest =
    let more = more_pieces names (items_of vs) rest in
    ap (λ l. codes " choose" ++ l) (value_written names gap.Spaced v more)
    ∙ ap (λ l. codes " choose " ++ l) (sym (value_written names gap.Joined v more))
    ∙ ap (λ l. codes " choose " ++ l) (items_written names (items_of (v ∷ vs)) rest)
    ∙ ap (λ ts. codes " choose " ++ (with_commas ts ++ line_text rest)) (texts_listed names (v ∷ vs))

-- the text of an entry
pub entry_written : (names : List (List ℕ)) (g : Gap) (e : PlainEntry) (rest : Pieces) → line_text (entry_pieces names g e rest) ≡ gap_text g ++ (entry_text names e.action e.chosen ++ line_text rest)
entry_written names g e rest =
    action_written names g e.action (choice_pieces names e.chosen rest)
    ∙ ap (λ l. gap_text g ++ (action_text names e.action ++ l)) (choice_written names e.chosen rest)
    ∙ ap (λ l. gap_text g ++ l) (sym (append_assoc (action_text names e.action) (chosen_text names e.chosen) (line_text rest)))

-- values that an effect may choose can be printed
pub choice_printable : (many : ℕ) (v : Data) → MayChoose many v → IsPrintable many v
choice_printable many (number z) may = may
choice_printable many (truth b) may = tt
choice_printable many (constant k) may = may
choice_printable many _ may = absurd may

choices_printable : (many : ℕ) (vs : List Data) → AllByRecursion (MayChoose many) vs → ArePrintable many (items_of vs)
choices_printable many [] may = tt
choices_printable many (v ∷ vs) may = (choice_printable many v may.0, choices_printable many vs may.1)

-- chosen values behind a space are apart from any token
pub choice_loose : (names : List (List ℕ)) (vs : List Data) (rest : Pieces) → IsLoose rest → IsLoose (choice_pieces names vs rest)
choice_loose names [] rest loose = loose
choice_loose names (v ∷ vs) rest loose = λ t. refl

-- they are tokens of a line
pub choice_good : (names : List (List ℕ)) → AllByRecursion IsName names → (vs : List Data) (rest : Pieces) → AllByRecursion (MayChoose (length names)) vs → IsLoose rest → AreLineTokens false rest → AreLineTokens false (choice_pieces names vs rest)
choice_good names words [] rest may loose good = good
choice_good names words (v ∷ vs) rest may loose good =
    let more = more_pieces names (items_of vs) rest in
    let behind = more_good names words (items_of vs) rest (choices_printable (length names) vs may.1) loose good in
    (tt, tt, spaced_loose names v more (token.Mark mark.Choose), value_good names words gap.Spaced v more tt (choice_printable (length names) v may.0) (more_loose names (items_of vs) rest loose) behind)

-- they are a spelling of what was chosen
choice_simple : (many : ℕ) (v : Data) → MayChoose many v → is_simple v ≡ true
choice_simple many (number z) may = refl
choice_simple many (truth b) may = refl
choice_simple many (constant k) may = refl
choice_simple many _ may = absurd may

choices_simple : (many : ℕ) (vs : List Data) → AllByRecursion (MayChoose many) vs → list_all is_simple vs ≡ true
choices_simple many [] may = refl
choices_simple many (v ∷ vs) may = rw (choice_simple many v may.0) (choices_simple many vs may.1)

choice_canonical : (many : ℕ) (v : Data) → MayChoose many v → IsCanonical v
choice_canonical many (number z) may = tt
choice_canonical many (truth b) may = tt
choice_canonical many (constant k) may = tt
choice_canonical many _ may = absurd may

choices_canonical : (many : ℕ) (vs : List Data) → AllByRecursion (MayChoose many) vs → AreCanonical (items_of vs)
choices_canonical many [] may = tt
choices_canonical many (v ∷ vs) may = (choice_canonical many v may.0, choices_canonical many vs may.1)

pub choice_spelled : (names : List (List ℕ)) → IsDistinct (pointwise nat_eq) names → (vs : List Data) → AllByRecursion (MayChoose (length names)) vs → SpellsChosen names vs (piece_tokens (choice_pieces names vs []))
choice_spelled names differ [] may = nothing_chosen
choice_spelled names differ (v ∷ vs) may =
    let many = length names in
    let items = items_of (v ∷ vs) in
    chosen (choices_simple many (v ∷ vs) may)
    (items_spelled names differ gap.Spaced items [] tt (choices_printable many (v ∷ vs) may) (choices_canonical many (v ∷ vs) may))
