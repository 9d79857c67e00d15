-- The checked invariant that a text's is, or the refusal (profile).
use Rattle.std.specs.Prelude.{List, [], ◌++◌, Result, Ok}
use Rattle.std.specs.List.{AllByRecursion, zip}
use Rattle.ioa_values.specs.Outcome.{and_then}
use Rattle.ioa_operators.specs.Shapes.{truths}
use Rattle.ioa_terms.specs.Sorted.{NameShapes}
use Rattle.ioa_source.specs.Sides.{SourceInvariant}
use Rattle.ioa_source.specs.declared.declaration.Channel.{Channel}
use Rattle.ioa_system.specs.Invariants.{InvariantParts, invariant_parts}
use Rattle.ioa_system.specs.Parts.{Parts}
use Rattle.ioa_sort_rules.specs.DeclaredTypes.{TupleTypes, IsDeclared, AreAllDeclared}
use Rattle.ioa_refusals.specs.declared.refusal.Refusal.{Refusal}
use Rattle.ioa_names.specs.NameTables.{words}
use Rattle.ioa_sorts.specs.Sorting.{fit, sorting}
use Rattle.ioa_invariants.specs.ReadNames.{read_in}
use Rattle.ioa_invariants.specs.ReadShapes.{reading_shapes}

-- an invariant, in a text of these constants, of nodes of these programs and of these channels
unfoldable pub invariant_at : NameShapes → List Parts → List Channel → SourceInvariant → Result InvariantParts Refusal
invariant_at constants ps cs v = and_then (read_in [] v.term)
    (λ ns. and_then (reading_shapes ps cs ns)
    (λ ss. and_then (fit (sorting (zip ns ss ++ constants) v.term) truths)
    (λ t. Ok (invariant_parts v.name (words constants) ns t))))

-- each tuple type in the shapes of a program's state variables and of the arguments of its actions is the declared one
-- of its name
pub record HasDeclaredParts (types : TupleTypes) (p : Parts) : Type 0 where
  pub variables : AllByRecursion (λ v. IsDeclared types v.declared.shape) p.automaton.variables
  pub arguments : AllByRecursion (λ r. AllByRecursion (IsDeclared types) r.shapes) p.automaton.rules

-- the same of the text's constants and of each program
pub record AreDeclaredParts (constants : NameShapes) (ps : List Parts) : Type 0 where
  pub types : TupleTypes
  pub constants_declared : AreAllDeclared types constants
  pub programs_declared : AllByRecursion (HasDeclaredParts types) ps
