-- A value is read from its text.
use Rattle.std.proofs.Common.{◌≡◌, ℕ, true, List, [], length, map, refl, append-nil}
use Rattle.ioa_values.specs.Canonical.{IsCanonical}
use Rattle.ioa_values.specs.Data.{Data}
use Rattle.ioa_values.specs.Text.{text}
use Rattle.ioa_tokens.specs.declared.written.Gap.TheVariants as gap
use Rattle.ioa_value_reader.specs.Grammar.{SpellsValue}
use Rattle.ioa_value_reader.proofs.Complete.{value_complete}
use Rattle.ioa_printed_lines.specs.PrintedLines.{IsReadBack}
use Rattle.ioa_operators.specs.Shapes.{PlainShape, has_shape, wide_shape}
use Rattle.ioa_printed_lines.specs.TextSystems.{AreConstantNames, IsTextShape, IsBounded}
use Rattle.ioa_printed_lines.proofs.ShapedValues.{value_printable}
use Rattle.ioa_printed_lines.proofs.WrittenLines.{line_cut, line_text}
use Rattle.ioa_printed_lines.proofs.ValuePieces.{value_pieces, value_written}
use Rattle.ioa_printed_lines.proofs.GoodPieces.{value_good}
use Rattle.ioa_printed_lines.proofs.ValueSpellings.{value_spelled, piece_tokens}

-- its text is cut into tokens that spell it, and it is read from them
pub value_read : (names : List (List ℕ)) (s : PlainShape) (v : Data) → AreConstantNames names → IsTextShape (length names) s → has_shape (wide_shape s) v ≡ true → IsBounded v → IsCanonical v → IsReadBack names s v (text names v)
value_read names s v are of_text has bounded canonical =
    let is = value_printable (length names) s v of_text has bounded in
    let ws = value_pieces names gap.Joined v [] in
    let cut = line_cut ws [] (value_good names are.words gap.Joined v [] tt is (λ t. tt) tt) refl in
    let written : line_text ws ≡ text names v = rw (value_written names gap.Joined v [], append-nil (text names v)) refl in
    let spelled : SpellsValue names v (piece_tokens ws) [] = value_spelled names are.differ gap.Joined v [] is canonical in
    let so : SpellsValue names v (map (λ p. p.token) cut.0) [] = rw cut.2 spelled in
    record {
      located = cut.0;
      cut = rw (append-nil (line_text ws), written) at cut.1;
      spelled = so;
      read = value_complete names so s has;
    }
