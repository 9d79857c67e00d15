-- Where statements are written (profile): in the effect of a transition or in a schedule block.
use Rattle.std.specs.Prelude.{Bool, true, false, List, []}
use Rattle.std.specs.List.{AllByRecursion}
use Rattle.ioa_terms.specs.Sorted.{NameShapes}
use Rattle.ioa_system.specs.Parts.{PlainRule}
use Rattle.ioa_sort_rules.specs.DeclaredTypes.{TupleTypes, IsDeclared, AreAllDeclared}
use Rattle.ioa_types.specs.TypeTables.{TypeTable}

-- what statements may do there: the types whose values they may choose, the variables that they may assign, all
-- variables of the automaton and the block, of which the others are of the state and may not be assigned, all names in
-- view, whether it is a schedule block, and the rules whose actions may be fired
pub record PlainStatementSite : Type 0 where
  pub types : TypeTable
  pub variables : NameShapes
  pub all_variables : NameShapes
  pub names : NameShapes
  pub in_block : Bool
  pub rules : List PlainRule

-- an effect, which assigns state variables, chooses values of the text's types and fires nothing
abbrev pub effect_site : TypeTable → (variables names : NameShapes) → PlainStatementSite
effect_site types variables names = record {
  types = types;
  variables = variables;
  all_variables = variables;
  names = names;
  in_block = false;
  rules = [];
}

-- a schedule block, which assigns its own variables and chooses nothing
abbrev pub block_site : (variables all_variables names : NameShapes) → List PlainRule → PlainStatementSite
block_site variables all_variables names rules = record {
  types = [];
  variables = variables;
  all_variables = all_variables;
  names = names;
  in_block = true;
  rules = rules;
}

-- each tuple type in the shapes of what is known there is the declared one of its name
pub record IsDeclaredSite (types : TupleTypes) (s : PlainStatementSite) : Type 0 where
  pub variables : AreAllDeclared types s.variables
  pub names : AreAllDeclared types s.names
  pub rules : AllByRecursion (λ r. AllByRecursion (IsDeclared types) r.shapes) s.rules
