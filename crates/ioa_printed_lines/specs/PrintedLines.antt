-- The lines of a schedule as a run prints them, and texts that are read back (profile).
use Rattle.std.specs.Prelude.{◌≡◌, ℕ, ◌+◌, List, [], ◌∷◌, ◌++◌, codes, map, Some, Ok}
use Rattle.std.specs.Fmt.{decimal}
use Rattle.ioa_values.specs.Data.{Data}
use Rattle.ioa_tokens.specs.LineTokens.{line_tokens}
use Rattle.ioa_tokens.specs.declared.token.LocatedToken.{LocatedToken}
use Rattle.ioa_operators.specs.Shapes.{PlainShape}
use Rattle.ioa_value_reader.specs.Grammar.{SpellsValue}
use Rattle.ioa_value_reader.specs.Reading.{read_value}
use Rattle.ioa_actions.specs.ActionText.{entry_text}
use Rattle.ioa_transitions.specs.Entries.{PlainEntry}

-- `k entry`, one line an entry, counted from k
abbrev pub printed_lines : List (List ℕ) → ℕ → List PlainEntry → List ℕ
printed_lines names k [] = []
printed_lines names k (e ∷ more) =
    (decimal k ++ (codes " " ++ (entry_text names e.action e.chosen ++ codes "\n"))) ++ printed_lines names (k + 1) more

-- a text is cut into tokens that spell a value and nothing more, and for its shape that value is read from them
pub record IsReadBack (names : List (List ℕ)) (s : PlainShape) (v : Data) (text : List ℕ) : Type 0 where
  pub located : List LocatedToken
  pub cut : line_tokens text ≡ Ok located
  pub spelled : SpellsValue names v (map (λ p. p.token) located) []
  pub read : read_value names s (map (λ p. p.token) located) ≡ Some (v, [])
