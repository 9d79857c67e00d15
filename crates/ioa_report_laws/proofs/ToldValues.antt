-- The text of a value tells the value, among those of its shape.
use Rattle.std.proofs.Common.{◌≡◌, ℕ, true, false, List, [], ◌++◌, Ok, Some, length, map, refl, sym, append-nil, ◌∙◌}
use Rattle.std.specs.Prelude.{Result}
use Rattle.ioa_values.specs.Canonical.{IsCanonical}
use Rattle.ioa_values.specs.Data.{Data}
use Rattle.ioa_values.specs.Text.{text}
use Rattle.ioa_tokens.specs.LineTokens.{line_tokens}
use Rattle.ioa_tokens.specs.declared.fault.CutFault.{CutFault}
use Rattle.ioa_tokens.specs.declared.token.LocatedToken.{LocatedToken}
use Rattle.ioa_tokens.specs.declared.token.Token.{Token}
use Rattle.ioa_tokens.specs.declared.written.Gap.TheVariants as gap
use Rattle.ioa_operators.specs.Shapes.{PlainShape, has_shape}
use Rattle.ioa_value_reader.specs.Reading.{read_value}
use Rattle.ioa_run_laws.proofs.Assigned.{widened}
use Rattle.ioa_printed_lines.specs.PrintedLines.{IsReadBack}
use Rattle.ioa_printed_lines.specs.TextSystems.{AreConstantNames, IsBounded, IsTextShape}
use Rattle.ioa_printed_lines.proofs.GoodPieces.{value_good}
use Rattle.ioa_printed_lines.proofs.LineFeeds.{IsOneLine, line_line}
use Rattle.ioa_printed_lines.proofs.ShapedValues.{value_printable}
use Rattle.ioa_printed_lines.proofs.ValuePieces.{value_pieces, value_written}
use Rattle.ioa_printed_lines.proofs.ValuesRead.{value_read}
use Rattle.ioa_printed_lines.proofs.WrittenLines.{line_text}

-- a value that is told: of a shape of the text, with values of the runtime
pub record IsTold (names : List (List ℕ)) (s : PlainShape) (v : Data) : Type 0 where
  pub of_text : IsTextShape (length names) s
  pub shaped : has_shape s v ≡ true
  pub bounded : IsBounded v
  pub canonical : IsCanonical v

module _ (names : List (List ℕ)) (are : AreConstantNames names) (s : PlainShape) where
  -- its text is in one line
  pub value_line : (v : Data) → IsTold names s v → IsOneLine (text names v)
  value_line v is =
      let pieces = value_pieces names gap.Joined v [] in
      let printable = value_printable (length names) s v is.of_text (widened s v is.shaped) is.bounded in
      let written : line_text pieces ≡ text names v = rw (value_written names gap.Joined v [], append-nil (text names v)) refl in
      rw written at (line_line false pieces (value_good names are.words gap.Joined v [] tt printable (λ t. tt) tt))

  -- it tells the value, since it is read back
  pub one_value : (v w : Data) → IsTold names s v → IsTold names s w → text names v ≡ text names w → v ≡ w
  one_value v w is also same =
      read_once (value_read names s v are is.of_text (widened s v is.shaped) is.bounded is.canonical)
      (value_read names s w are also.of_text (widened s w also.shaped) also.bounded also.canonical)
    where
      one_cut : (xs ys : List LocatedToken) (x y : Result (List LocatedToken) CutFault) → x ≡ Ok xs → y ≡ Ok ys → x ≡ y → xs ≡ ys
      one_cut xs ys x y h g e = cc

      one_read : (xs ys : List LocatedToken) (a b : Data × List Token) → xs ≡ ys → read_value names s (map (λ p. p.token) xs) ≡ Some a → read_value names s (map (λ p. p.token) ys) ≡ Some b → a.0 ≡ b.0
      one_read xs ys a b e h g = of_some (sym h ∙ rw e g)
        where
          of_some : Some a ≡ Some b → a.0 ≡ b.0
          of_some k = cc

      read_once : IsReadBack names s v (text names v) → IsReadBack names s w (text names w) → v ≡ w
      read_once a b = one_read a.located b.located (v, []) (w, []) (one_cut a.located b.located (line_tokens (text names v)) (line_tokens (text names w)) a.cut b.cut (rw same refl)) a.read b.read
