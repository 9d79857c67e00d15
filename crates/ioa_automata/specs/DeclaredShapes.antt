-- When each tuple type in the shapes of an automaton is the declared one of its name (profile).
use Rattle.std.specs.Prelude.{map}
use Rattle.std.specs.List.{AllByRecursion}
use Rattle.ioa_system.specs.Parts.{AutomatonParts}
use Rattle.ioa_sort_rules.specs.DeclaredTypes.{TupleTypes, IsDeclared}

-- the shapes of the parameters and of the state variables of an automaton, and those of the arguments of its actions
pub record HasDeclaredShapes (types : TupleTypes) (a : AutomatonParts) : Type 0 where
  pub parameters : AllByRecursion (IsDeclared types) (map (λ d. d.shape) a.parameters)
  pub variables : AllByRecursion (λ v. IsDeclared types v.declared.shape) a.variables
  pub arguments : AllByRecursion (λ r. AllByRecursion (IsDeclared types) r.shapes) a.rules
