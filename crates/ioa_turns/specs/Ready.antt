-- Blocks that can go on (form).
use Rattle.std.specs.Prelude.{◌≡◌, ℕ, List, map, length}
use Rattle.ioa_values.specs.Data.{Data}
use Rattle.ioa_operators.specs.declared.shape.Shape.{Shape}
use Rattle.ioa_terms.specs.declared.callee.Callee.{Callee}
use Rattle.ioa_terms.specs.PlainTerm.{PlainStatements}
use Rattle.ioa_terms.specs.Resolved.{AreAllResolved}
use Rattle.ioa_terms.specs.declared.name.Name.TheVariants.{Word}
use Rattle.ioa_system.specs.InView.{block_own_names, block_statement, declared_names, names_at, variable_names}
use Rattle.ioa_system.specs.Numbered.{AreNumbered}
use Rattle.ioa_system.specs.Parts.{Parts}

-- a block that can go on: each of its own variables has a value, and in what is to do each name is resolved and each
-- firing bears the number of its rule
pub record IsReady (p : Parts) (todo : PlainStatements ℕ Callee Shape) (own : List Data) : Type 0 where
  pub valued : length own ≡ length p.automaton.schedule.variables
  pub resolved : AreAllResolved todo (map Word (variable_names p.automaton.schedule.variables))
      (names_at block_statement (declared_names p.automaton) (block_own_names p.automaton))
  pub numbered : AreNumbered p.automaton.rules todo

-- the same of a block that is gone through
pub record IsSteppable (p : Parts) (todo : PlainStatements ℕ Callee Shape) (own : List Data) : Type 0 where
  pub valued : length own ≡ length p.automaton.schedule.variables
  pub resolved : AreAllResolved todo (map Word (variable_names p.automaton.schedule.variables))
      (names_at block_statement (declared_names p.automaton) (block_own_names p.automaton))
