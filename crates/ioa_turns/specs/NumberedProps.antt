-- That firings bear the numbers of their rules is said in one way at most (form).
use Rattle.std.specs.Prelude.{ℕ, List}
use Rattle.std.proofs.Props.{props}
use Rattle.ioa_operators.specs.declared.shape.Shape.{Shape}
use Rattle.ioa_terms.specs.declared.callee.Callee.{Callee}
use Rattle.ioa_terms.specs.PlainTerm.{PlainStatement, PlainStatements, PlainArms, assign, branch, loop, fire, choosing}
use Rattle.ioa_terms.specs.PlainTerm.{no_statements, statement, no_arms, arm}
use Rattle.ioa_system.specs.Numbered.{IsNumbered, AreArmsNumbered, AreNumbered}
use Rattle.ioa_system.specs.Parts.{PlainRule}

mutual
  -- a statement
  IsNumbered-prop : (rules : List PlainRule) (s : PlainStatement ℕ Callee Shape) → IsProp (IsNumbered rules s)
  IsNumbered-prop rules (assign p t) = hlevel props
  IsNumbered-prop rules (branch arms rest) = hlevel (AreArmsNumbered-prop rules arms, AreNumbered-prop rules rest)
  IsNumbered-prop rules (loop t body) = AreNumbered-prop rules body
  IsNumbered-prop rules (fire f) = hlevel props
  IsNumbered-prop rules (choosing c) = hlevel props

  -- arms
  AreArmsNumbered-prop : (rules : List PlainRule) (arms : PlainArms ℕ Callee Shape)
      → IsProp (AreArmsNumbered rules arms)
  AreArmsNumbered-prop rules no_arms = hlevel props
  AreArmsNumbered-prop rules (arm t body more) =
      hlevel (AreNumbered-prop rules body, AreArmsNumbered-prop rules more)

  -- statements
  pub AreNumbered-prop : (rules : List PlainRule) (ss : PlainStatements ℕ Callee Shape) → IsProp (AreNumbered rules ss)
  AreNumbered-prop rules no_statements = hlevel props
  AreNumbered-prop rules (statement s more) = hlevel (IsNumbered-prop rules s, AreNumbered-prop rules more)
