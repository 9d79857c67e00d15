-- When each firing of a schedule block bears the number of the rule that it names (profile).
use Rattle.std.specs.Prelude.{◌≡◌, ℕ, List, Some, slice_get}
use Rattle.std.specs.Option.{option_map}
use Rattle.ioa_operators.specs.declared.shape.Shape.{Shape}
use Rattle.ioa_terms.specs.declared.callee.Callee.{Callee}
use Rattle.ioa_terms.specs.PlainTerm.{PlainStatement, PlainStatements, PlainArms, assign, branch, loop, fire, choosing}
use Rattle.ioa_terms.specs.PlainTerm.{no_statements, statement, no_arms, arm}
use Rattle.ioa_system.specs.Parts.{PlainRule}

-- the rule of a number has this name
abbrev pub IsNumberOf : List PlainRule → List ℕ → ℕ → Type 0
IsNumberOf rules w number = option_map (λ r. r.entry.name) (slice_get rules number) ≡ Some w

abbrev mutual
  -- each firing in a statement bears the number of the rule that it names
  pub IsNumbered : List PlainRule → PlainStatement ℕ Callee Shape → Type 0
  IsNumbered rules (assign p t) = Unit {0}
  IsNumbered rules (branch arms rest) = AreArmsNumbered rules arms × AreNumbered rules rest
  IsNumbered rules (loop t body) = AreNumbered rules body
  IsNumbered rules (fire f) = IsNumberOf rules f.action f.rule
  IsNumbered rules (choosing c) = Unit {0}

  -- the same of each arm
  pub AreArmsNumbered : List PlainRule → PlainArms ℕ Callee Shape → Type 0
  AreArmsNumbered rules no_arms = Unit {0}
  AreArmsNumbered rules (arm t body more) = AreNumbered rules body × AreArmsNumbered rules more

  -- the same of each of statements
  pub AreNumbered : List PlainRule → PlainStatements ℕ Callee Shape → Type 0
  AreNumbered rules no_statements = Unit {0}
  AreNumbered rules (statement s more) = IsNumbered rules s × AreNumbered rules more
