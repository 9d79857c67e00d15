-- The lines of printed entries are read back as these entries.
use Rattle.std.proofs.Common.{◌≡◌, ℕ, ◌+◌, ◌≤◌, ◌==◌, pos, Ok, List, [], ◌∷◌, ◌++◌, codes, decimal, length, refl, ap, subst, arith, ◌∙◌, append_assoc, append-nil, false}
use Rattle.std.specs.List.{AllByRecursion, slice_split}
use Rattle.std.proofs.lemmas.List.Splits.{slice_split_at}
use Rattle.std.proofs.lemmas.List.Elements.{All-from_recursion}
use Rattle.ioa_tokens.specs.declared.token.Token.TheVariants as token
use Rattle.ioa_tokens.specs.declared.written.Gap.TheVariants as gap
use Rattle.ioa_tokens.specs.Lexeme.{greatest_number}
use Rattle.ioa_tokens.specs.LineTokens.{line_tokens}
use Rattle.ioa_actions.specs.ActionText.{entry_text}
use Rattle.ioa_actions.specs.declared.action.Action.{Action}
use Rattle.ioa_actions.specs.declared.action.Action.TheVariants.{Send, Receive, Local, Stimulus}
use Rattle.ioa_transitions.specs.Entries.{PlainEntry}
use Rattle.ioa_system.specs.Systems.{SystemParts}
use Rattle.ioa_lines.specs.Grammar.{SpellsAlone, numbered}
use Rattle.ioa_lines.proofs.LinesLaw.{entries_complete}
use Rattle.ioa_lines.specs.Lines.{lines_answer, entries_left, LineSpells, Lines, no_line, blank, entry_line}
use Rattle.ioa_printed_lines.specs.TextSystems.{AreConstantNames, IsTextSystem, MayChoose, MayTake}
use Rattle.ioa_printed_lines.proofs.Printables.{IsPrintableAction}
use Rattle.ioa_printed_lines.specs.PrintedLines.{printed_lines}
use Rattle.ioa_printed_lines.proofs.WrittenLines.{line_cut, line_text, AreLineTokens}
use Rattle.ioa_printed_lines.proofs.ValuePieces.{Pieces}
use Rattle.ioa_printed_lines.proofs.ActionPieces.{action_pieces}
use Rattle.ioa_printed_lines.proofs.ChoicePieces.{choice_good, choice_loose, choice_pieces, choice_spelled, entry_pieces, entry_written}
use Rattle.ioa_printed_lines.proofs.GoodPieces.{IsLoose}
use Rattle.ioa_printed_lines.proofs.ActionSpellings.{action_good, action_spelled}
use Rattle.ioa_printed_lines.proofs.ValueSpellings.{piece_tokens}
use Rattle.ioa_printed_lines.proofs.ShapedValues.{action_printable}
use Rattle.ioa_printed_lines.proofs.LineFeeds.{IsOneLine, line_line}

-- the pieces of a line: a number, and an entry
line_pieces : List (List ℕ) → ℕ → PlainEntry → Pieces
line_pieces names k e = (gap.Joined, token.Number (pos k)) ∷ entry_pieces names gap.Spaced e []

-- its text
pub line_of : List (List ℕ) → ℕ → PlainEntry → List ℕ
line_of names k e = decimal k ++ (codes " " ++ entry_text names e.action e.chosen)

line_written : (names : List (List ℕ)) (k : ℕ) (e : PlainEntry) → line_text (line_pieces names k e) ≡ line_of names k e
unfolding line_pieces line_of
line_written names k e = ap (λ l. decimal k ++ l) (entry_written names gap.Spaced e []) ∙ rw append-nil refl

-- an action behind a space is apart from any token
spaced_action : (names : List (List ℕ)) (a : Action) (rest : Pieces) → IsLoose (action_pieces names gap.Spaced a rest)
spaced_action names (Send m i j) rest t = refl
spaced_action names (Receive m i j) rest t = refl
spaced_action names (Local a) rest t = refl
spaced_action names (Stimulus a) rest t = refl

-- an entry can be printed: its action can, and its effect may choose what it chose
record IsPrintableEntry (many : ℕ) (e : PlainEntry) : Type 0 where
  action : IsPrintableAction many e.action
  chosen : AllByRecursion (MayChoose many) e.chosen

entry_printable : (s : SystemParts) (e : PlainEntry) → IsTextSystem s → MayTake s e → IsPrintableEntry (length s.names) e
entry_printable s e is may = record { action = action_printable s e is may; chosen = may.chosen }

-- they are tokens of a line
line_good : (names : List (List ℕ)) (k : ℕ) (e : PlainEntry) → AreConstantNames names → k ≤ greatest_number → IsPrintableEntry (length names) e → AreLineTokens false (line_pieces names k e)
unfolding line_pieces
line_good names k e are low is =
    let chosen = choice_pieces names e.chosen [] in
    let behind : AreLineTokens false chosen = choice_good names are.words e.chosen [] is.chosen (λ t. tt) tt in
    (tt, low, spaced_action names e.action chosen (token.Number (pos k)), action_good names are gap.Spaced e.action chosen tt is.action (choice_loose names e.chosen [] (λ t. tt)) behind)

-- a line of a system's entry
pub line_read : (s : SystemParts) (k : ℕ) (e : PlainEntry) → IsTextSystem s → k ≤ greatest_number → MayTake s e → LineSpells s (line_of s.names k e) e
unfolding line_pieces
line_read s k e is low may =
    let ws = line_pieces s.names k e in
    let printable = entry_printable s e is may in
    let cut = line_cut ws [] (line_good s.names k e is.names low printable) refl in
    let action = action_spelled s.names is.names gap.Spaced e.action (choice_pieces s.names e.chosen []) printable.action may.canonical in
    let spelled : SpellsAlone s.names e (piece_tokens ws) = numbered action (choice_spelled s.names is.names.differ e.chosen may.chosen) in
    record {
      tokens = cut.0;
      cut = rw (append-nil (line_text ws), line_written s.names k e) at cut.1;
      spells = record { spelled = rw cut.2 spelled; taken = may.taken };
    }

-- it has no line feed
line_of_line : (names : List (List ℕ)) (k : ℕ) (e : PlainEntry) → AreConstantNames names → k ≤ greatest_number → IsPrintableEntry (length names) e → IsOneLine (line_of names k e)
line_of_line names k e are low is = subst IsOneLine (line_written names k e) (line_line false (line_pieces names k e) (line_good names k e are low is))

pub line_of_entry : (s : SystemParts) (k : ℕ) (e : PlainEntry) → IsTextSystem s → k ≤ greatest_number → MayTake s e → IsOneLine (line_of s.names k e)
line_of_entry s k e is low may = line_of_line s.names k e is.names low (entry_printable s e is may)

-- the lines of several entries
pub one_more : (names : List (List ℕ)) (k : ℕ) (e : PlainEntry) (more : List ℕ) → (decimal k ++ (codes " " ++ (entry_text names e.action e.chosen ++ codes "\n"))) ++ more ≡ line_of names k e ++ 10 ∷ more
unfolding line_of
one_more names k e more = line_joined (decimal k) (entry_text names e.action e.chosen) more
  where
    line_joined : (number text more : List ℕ) → (number ++ (codes " " ++ (text ++ codes "\n"))) ++ more ≡ (number ++ (codes " " ++ text)) ++ 10 ∷ more
    line_joined number text more = simp append_assoc

-- an empty line has no token
pub empty_cut : line_tokens [] ≡ Ok []
unfolding line_tokens
empty_cut = refl

pub lines_read : (s : SystemParts) (k : ℕ) (entries : List PlainEntry) → IsTextSystem s → AllByRecursion (MayTake s) entries → k + length entries ≤ greatest_number → Lines s (printed_lines s.names k entries) entries
lines_read s k [] is all low = blank empty_cut no_line
lines_read s k (e ∷ entries) is all low =
    let line = line_of s.names k e in
    let more = printed_lines s.names (k + 1) entries in
    let one : IsOneLine line = line_of_entry s k e is (omega arith) all.0 in
    let split : slice_split (λ b. b == 10) (printed_lines s.names k (e ∷ entries)) ≡ line ∷ slice_split (λ b. b == 10) more =
    ap (slice_split (λ b. b == 10)) (one_more s.names k e more)
    ∙ slice_split_at (λ b. b == 10) line 10 more (All-from_recursion (λ c. (c == 10) ≡ false) line one) refl in
    rw split (entry_line (line_read s k e is (omega arith) all.0) (lines_read s (k + 1) entries is all.1 (omega arith)))

-- so the reader of lines finds these entries
pub lines_answered : (s : SystemParts) (k : ℕ) (entries : List PlainEntry) → IsTextSystem s → AllByRecursion (MayTake s) entries → k + length entries ≤ greatest_number → lines_answer s (printed_lines s.names k entries) ≡ Ok entries
unfolding entries_left
lines_answered s k entries is all low = entries_complete (lines_read s k entries is all low) 0
