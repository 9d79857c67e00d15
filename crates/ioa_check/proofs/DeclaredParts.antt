-- What invariants read of the programs of a section has declared shapes.
use Rattle.std.proofs.Common.{List, [], ◌∷◌}
use Rattle.std.specs.List.{AllByRecursion}
use Rattle.ioa_terms.specs.Sorted.{NameShapes}
use Rattle.ioa_system.specs.Parts.{Parts}
use Rattle.ioa_sort_rules.specs.DeclaredTypes.{TupleTypes}
use Rattle.ioa_automata.specs.DeclaredShapes.{HasDeclaredShapes}
use Rattle.ioa_invariants.specs.Checked.{HasDeclaredParts, AreDeclaredParts}
use Rattle.ioa_sections.specs.Grounds.{AreGroundedPrograms}

parts_shapes : (types : TupleTypes) (ps : List Parts) → AllByRecursion (λ p. HasDeclaredShapes types p.automaton) ps → AllByRecursion (HasDeclaredParts types) ps
parts_shapes types [] h = tt
parts_shapes types (p ∷ ps) h = (record { variables = h.0.variables; arguments = h.0.arguments }, parts_shapes types ps h.1)

pub parts_declared : (names : NameShapes) (ps : List Parts) → AreGroundedPrograms names ps → AreDeclaredParts names ps
parts_declared names ps g = record {
  types = g.types;
  constants_declared = g.names_declared;
  programs_declared = parts_shapes g.types ps g.each_declared;
}
