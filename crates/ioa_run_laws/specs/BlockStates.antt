-- A schedule block under way (profile).
use Rattle.std.specs.Prelude.{ℕ, List}
use Rattle.std.specs.List.{AllByRecursion, AllZip}
use Rattle.ioa_values.specs.Data.{Data}
use Rattle.ioa_operators.specs.declared.shape.Shape.{Shape}
use Rattle.ioa_terms.specs.declared.callee.Callee.{Callee}
use Rattle.ioa_terms.specs.PlainTerm.{PlainStatements}
use Rattle.ioa_system.specs.InView.{block_bindings}
use Rattle.ioa_system.specs.Parts.{Parts, message_shape}
use Rattle.ioa_turns.specs.NodeTurns.{PlainProgress}
use Rattle.ioa_run_laws.specs.Shaped.{FitsVariable, FitInboxes}
use Rattle.ioa_run_laws.specs.WellSorted.{AreBlockWellSorted}

-- a block that has these statements to do, and whose variables have these values: the values have the variables'
-- shapes, and the statements are well sorted, each part of each term, whatever values of their shapes the state
-- variables, the inboxes and the block's own have when they are taken
pub record IsBlockState (p : Parts) (todo : PlainStatements ℕ Callee Shape) (own : List Data) : Type 0 where
  pub values : AllZip FitsVariable p.automaton.schedule.variables own
  pub sorted : (state inboxes later : List Data) → AllZip FitsVariable p.automaton.variables state
      → FitInboxes (message_shape p.automaton.rules) inboxes
      → AllZip FitsVariable p.automaton.schedule.variables later
      → AreBlockWellSorted p.automaton.schedule.variables p.automaton.rules todo
      (block_bindings p.automaton p.arguments state inboxes later)

-- each node of a run has its block in such a state
abbrev pub AreBlockStates : List PlainProgress → Type 0
AreBlockStates ps = AllByRecursion (λ p. IsBlockState p.program p.todo p.own) ps
