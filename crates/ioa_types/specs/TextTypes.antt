-- The types and the constants that a text declares, one declaration after another (profile).
use Rattle.std.specs.Prelude.{ℕ, List, [], ◌∷◌, Result, Ok, length, refl}
use Rattle.std.specs.Coded.{Coded, code_by, coded×, coded_list}
use Rattle.ioa_values.specs.Outcome.{and_then}
use Rattle.ioa_operators.specs.Shapes.{PlainShape, constants}
use Rattle.ioa_operators.specs.ShapeCode.{shape_code}
use Rattle.ioa_terms.specs.contracts.name.Name as called
use Rattle.ioa_terms.specs.Sorted.{NameShapes}
use Rattle.ioa_source.specs.PlainText.{enumeration, tuple_of}
use Rattle.ioa_source.specs.Sides.{SourceDeclared, SourceForm, SourceType}
use Rattle.ioa_refusals.specs.declared.refusal.Refusal.{Refusal}
use Rattle.ioa_names.specs.NameTables.{with_name}
use Rattle.ioa_types.specs.TypeTables.{TypeTable, tuple_shape}

-- the types, and the constants of the enumerations, each with the shape of its enumeration
pub record PlainTextTypes : Type 0 where
  pub types : TypeTable
  pub constants : NameShapes

abbrev pub text_types : TypeTable → NameShapes → PlainTextTypes
text_types ts cs = record { types = ts; constants = cs }

abbrev pub no_types : PlainTextTypes
no_types = text_types [] []

-- their code: a pair
abbrev pub text_types_code : Coded PlainTextTypes
text_types_code =
    code_by (TypeTable × NameShapes)
    (coded× (coded_list (coded× called.the_row.coded shape_code)) (coded_list (coded× called.the_row.coded shape_code)))
    (λ t. (t.types, t.constants))
    (λ p. text_types p.0 p.1)
    (λ _. refl)

-- the constants with those of an enumeration of a shape behind them
abbrev pub with_constants : NameShapes → PlainShape → List (List ℕ) → Result NameShapes Refusal
with_constants cs s [] = Ok cs
with_constants cs s (w ∷ ws) = and_then (with_name cs w s) (λ ds. with_constants ds s ws)

-- an enumeration: its constants are numbered behind those before
abbrev pub with_enumeration : PlainTextTypes → List ℕ → List (List ℕ) → Result PlainTextTypes Refusal
with_enumeration t w ws = and_then (with_constants t.constants (constants w (length t.constants) (length ws)) ws)
    (λ cs. and_then (with_name t.types w (constants w (length t.constants) (length ws))) (λ ts. Ok (text_types ts cs)))

-- a tuple type, of types before it
abbrev pub with_tuple : PlainTextTypes → List ℕ → List SourceDeclared → Result PlainTextTypes Refusal
with_tuple t w fs = and_then (tuple_shape t.types w fs)
    (λ s. and_then (with_name t.types w s) (λ ts. Ok (text_types ts t.constants)))

-- a declaration of either
abbrev pub with_form : PlainTextTypes → List ℕ → SourceForm → Result PlainTextTypes Refusal
with_form t w (enumeration ws) = with_enumeration t w ws
with_form t w (tuple_of fs) = with_tuple t w fs

abbrev pub with_type : PlainTextTypes → SourceType → Result PlainTextTypes Refusal
with_type t d = with_form t d.name d.form
