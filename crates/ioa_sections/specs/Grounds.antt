-- When each tuple type in shapes is the declared one of its name (profile): what makes sorted terms have their shapes.
use Rattle.std.specs.Prelude.{List, refl}
use Rattle.std.specs.Coded.{Coded, code_by, coded×, coded_list}
use Rattle.std.specs.List.{AllByRecursion}
use Rattle.ioa_operators.specs.Shapes.{PlainShape}
use Rattle.ioa_operators.specs.ShapeCode.{shape_code}
use Rattle.ioa_terms.specs.contracts.name.Name as called
use Rattle.ioa_terms.specs.Sorted.{NameShapes}
use Rattle.ioa_system.specs.Parts.{AutomatonParts, Parts, parts_code}
use Rattle.ioa_sort_rules.specs.DeclaredTypes.{TupleTypes, IsDeclared, AreAllDeclared}
use Rattle.ioa_automata.specs.DeclaredShapes.{HasDeclaredShapes}

-- names and shapes of declared types
pub record HaveDeclaredShapes (names : NameShapes) (ss : List PlainShape) : Type 0 where
  pub types : TupleTypes
  pub names_declared : AreAllDeclared types names
  pub shapes_declared : AllByRecursion (IsDeclared types) ss

-- the same of the constants of a text and of the shapes of an automaton
pub record IsGrounded (names : NameShapes) (a : AutomatonParts) : Type 0 where
  pub types : TupleTypes
  pub names_declared : AreAllDeclared types names
  pub shapes_declared : HasDeclaredShapes types a

-- of each automaton, with the same declared types
pub record AreGrounded (names : NameShapes) (automata : List AutomatonParts) : Type 0 where
  pub types : TupleTypes
  pub names_declared : AreAllDeclared types names
  pub each_declared : AllByRecursion (HasDeclaredShapes types) automata

-- and of the automaton of each program
pub record AreGroundedPrograms (names : NameShapes) (ps : List Parts) : Type 0 where
  pub types : TupleTypes
  pub names_declared : AreAllDeclared types names
  pub each_declared : AllByRecursion (λ p. HasDeclaredShapes types p.automaton) ps

-- what scripts are checked on: the constants of a text, and the programs of its nodes
pub record GroundParts : Type 0 where
  pub constants : NameShapes
  pub programs : List Parts

abbrev pub ground_parts : NameShapes → List Parts → GroundParts
ground_parts names ps = record { constants = names; programs = ps }

-- their code: a pair
abbrev pub ground_code : Coded GroundParts
ground_code =
    code_by (NameShapes × List Parts)
    (coded× (coded_list (coded× called.the_row.coded shape_code)) (coded_list parts_code))
    (λ g. (g.constants, g.programs)) (λ p. ground_parts p.0 p.1) (λ _. refl)
