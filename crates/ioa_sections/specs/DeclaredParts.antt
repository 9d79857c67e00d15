-- What the declarations of a text describe (profile).
use Rattle.std.specs.Prelude.{List, [], Result, Ok, refl}
use Rattle.std.specs.Coded.{Coded, code_by, coded×, coded_list}
use Rattle.ioa_values.specs.Outcome.{and_then}
use Rattle.ioa_source.specs.Sides.{SourceDeclaration}
use Rattle.ioa_system.specs.Parts.{AutomatonParts, automaton_code}
use Rattle.ioa_types.specs.TextTypes.{PlainTextTypes, no_types, text_types_code}
use Rattle.ioa_sections.specs.declared.fault.CheckFault.{CheckFault}
use Rattle.ioa_sections.specs.Declarations.{types_at, automata_at}

-- types with their constants, and automata
pub record DeclaredParts : Type 0 where
  pub types : PlainTextTypes
  pub automata : List AutomatonParts

abbrev pub declared_parts : PlainTextTypes → List AutomatonParts → DeclaredParts
declared_parts t cs = record { types = t; automata = cs }

-- their code: a pair
abbrev pub declared_code : Coded DeclaredParts
declared_code =
    code_by (PlainTextTypes × List AutomatonParts) (coded× text_types_code (coded_list automaton_code))
    (λ d. (d.types, d.automata)) (λ p. declared_parts p.0 p.1) (λ _. refl)

-- what declarations describe, or the first refusal found
unfoldable pub declared_at : List SourceDeclaration → Result DeclaredParts CheckFault
declared_at ds = and_then (types_at 0 no_types ds)
    (λ t. and_then (automata_at t 0 [] ds) (λ cs. Ok (declared_parts t cs)))
